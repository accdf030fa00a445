-- The statements of specs/, each with its proof.
use Rattle.decided.specs.Root.{Root}
use Rattle.decided.specs.Aliases.{Aliases, FwdLaws}
use Rattle.decided.specs.Forward.{Floats, Numbers, Operators, Others, Compared}
use Rattle.decided.specs.Tape.{Tape}
use Rattle.decided.specs.Expr.{Expr}
use Rattle.decided.specs.Dual.{Dual}
use Rattle.decided.specs.Listing.{Listing}
use Rattle.decided.specs.Session.{Session}
use Rattle.decided.specs.Text.{Text}
use Rattle.decided.specs.Track.{Track}
use Rattle.decided.specs.Open.{Open}
use Rattle.decided.specs.WrongNumbers.{NumbersTried}
use Rattle.decided.specs.WrongCalls.{CallsTried}
use Rattle.decided.specs.WrongSession.{SessionTried}
use Rattle.decided.specs.WrongText.{TextTried}
use Rattle.decided.specs.WrongTrack.{TrackTried}
use Rattle.decided.proofs.Root as of_root
use Rattle.decided.proofs.Aliases as of_aliases
use Rattle.decided.proofs.Forward as forward
use Rattle.decided.proofs.Tape as of_tape
use Rattle.decided.proofs.Expr as of_expr
use Rattle.decided.proofs.Dual as of_dual
use Rattle.decided.proofs.Listing as of_listing
use Rattle.decided.proofs.Session as of_session
use Rattle.decided.proofs.Text as of_text
use Rattle.decided.proofs.Track as of_track
use Rattle.decided.proofs.Open as open_ones
use Rattle.decided.proofs.Wrong as wrong

root : Root
root = of_root.root

aliases : Aliases
aliases = of_aliases.aliases

fwd_laws : FwdLaws
fwd_laws = of_aliases.fwd_laws

floats : Floats
floats = forward.floats

numbers : Numbers
numbers = forward.numbers

operators : Operators
operators = forward.operators

others : Others
others = forward.others

compared : Compared
compared = forward.compared

tape : Tape
tape = of_tape.tape

expr : Expr
expr = of_expr.expr

dual : Dual
dual = of_dual.dual

listing : Listing
listing = of_listing.listing

session : Session
session = of_session.session

text : Text
text = of_text.text

track : Track
track = of_track.track

all_open : Open
all_open = open_ones.all_open

numbers_tried : NumbersTried
numbers_tried = wrong.numbers_tried

calls_tried : CallsTried
calls_tried = wrong.calls_tried

session_tried : SessionTried
session_tried = of_session.session_tried

text_tried : TextTried
text_tried = of_text.text_tried

track_tried : TrackTried
track_tried = of_track.track_tried
