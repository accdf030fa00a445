-- One session file of demand 3's shape, in bytes, and what it lists. Its revolutions pass 3, 2^53 and -2^53 back to one
-- node of the model, so that the order of the three sums shows: (0 + 3) + 2^53 is 2^53 + 4 in floats, and less 2^53 it
-- is 4. Proved in proofs/Example.antt, by computation.
use Rattle.std.specs.Prelude.{ℕ, ◌≤◌, ◌≡◌, List, [], ◌∷◌, ◌++◌, map, length, drop}
use Rattle.text.specs.Numerals.{bytes}
use Rattle.session.specs.Lines.{n, c, Reader}
use Rattle.session.specs.Session.{answered}
use Rattle.files.specs.Summed.{leaf, op, FileRevolution, FileSession, file_lines, file, long_listing}

-- x = 3 and x * x
abbrev pub model : List ℕ
model = bytes "leaf=4008000000000000\nop=3 left=n0 right=n0\nmark=set\nclear=adj\n"

-- revolutions that are x * x times a number: 3, 2^53 and -2^53
abbrev pub low : List ℕ
low = bytes "op=3 left=n1 right=c4008000000000000\npass=tomark root=2\nrewind=mark\n"

abbrev pub high : List ℕ
high = bytes "op=3 left=n1 right=c4340000000000000\npass=tomark root=2\nrewind=mark\n"

abbrev pub minus_high : List ℕ
minus_high = bytes "op=3 left=n1 right=cc340000000000000\npass=tomark root=2\nrewind=mark\n"

abbrev pub three : List ℕ
three = model ++ low ++ high ++ minus_high ++ bytes "pass=rest\n"

-- the last two in the other order
abbrev pub swapped : List ℕ
swapped = model ++ low ++ minus_high ++ high ++ bytes "pass=rest\n"

-- the adjoint of x is 24 and that of x * x is 4; in the other order they are 18 and 3
abbrev pub three_listed : List ℕ
three_listed =
    bytes "nodes=2 mark=2 active=1\n"
    ++ bytes "node=0 val=4008000000000000 adj=4038000000000000\n"
    ++ bytes "node=1 val=4022000000000000 adj=4010000000000000\n"

abbrev pub swapped_listed : List ℕ
swapped_listed =
    bytes "nodes=2 mark=2 active=1\n"
    ++ bytes "node=0 val=4008000000000000 adj=4032000000000000\n"
    ++ bytes "node=1 val=4022000000000000 adj=4008000000000000\n"

-- the files as their lines
abbrev pub revolution : ℕ → FileRevolution
revolution pattern = record { operations = op 3 (n 1) (c pattern) ∷ []; root = 2 }

abbrev pub revolutions : List ℕ → FileSession
revolutions patterns =
    record { model = leaf 0x4008_0000_0000_0000 ∷ op 3 (n 0) (n 0) ∷ []; revolutions = map revolution patterns }

abbrev pub three_session : FileSession
three_session = revolutions (0x4008_0000_0000_0000 ∷ 0x4340_0000_0000_0000 ∷ 0xc340_0000_0000_0000 ∷ [])

abbrev pub swapped_session : FileSession
swapped_session = revolutions (0x4008_0000_0000_0000 ∷ 0xc340_0000_0000_0000 ∷ 0x4340_0000_0000_0000 ∷ [])

-- any reader's answer to these bytes, where they have room, is this listing
abbrev pub Lists : List ℕ → List ℕ → Type 0
Lists session listing =
    (R : Reader) (lent : List ℕ) → length listing ≤ length lent
    → answered R session lent ≡ (length listing, listing ++ drop (length listing) lent)

pub record Example : Type 0 where
  pub three_lists : Lists three three_listed
  pub three_file : file (file_lines three_session) ≡ three
  pub three_long : long_listing three_session ≡ three_listed
  pub swapped_lists : Lists swapped swapped_listed
  pub swapped_file : file (file_lines swapped_session) ≡ swapped
  pub swapped_long : long_listing swapped_session ≡ swapped_listed
