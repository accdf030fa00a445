-- Trading places, the second half of demand 3: neighbouring revolutions with no edge to a common node of the model.
-- Over any numbers; no law of them is assumed.
use Rattle.std.specs.Prelude.{ℕ, ◌<◌, ◌≡◌, Bool, false, ◌&&◌, ◌||◌, List, [], ◌∷◌, ◌++◌, map, eqb, length}
use Rattle.tape.specs.Numbers.{Numbers}
use Rattle.tape.specs.Machine.{Machine}
use Rattle.tape.specs.Walk.{Edge}
use Rattle.tape.specs.Calls.{Call}
use Rattle.revolutions.specs.Revolutions.{Session, ResolvedOperation, ResolvedRevolution, ResolvedSession, resolve, calls, nodes, RunsAs, model_adjoints}

-- does one of these edges go to node i
abbrev pub to : {N : Numbers} → ℕ → List (Edge N) → Bool
to i [] = false
to i (e ∷ es) = eqb e.child i || to i es

-- does an edge of these nodes, each given by its edges, go to node i
abbrev pub goes : {N : Numbers} → ℕ → List (List (Edge N)) → Bool
goes i [] = false
goes i (es ∷ above) = to i es || goes i above

-- no edge of p and no edge of q go to a common node of the model. An edge of weight zero counts, and so does one of a
-- node that the root does not reach
abbrev pub Apart : {N : Numbers} → List (ResolvedOperation N) → ResolvedRevolution N → ResolvedRevolution N → Type 0
Apart {N} model p q =
    let values = map (λ n. n.value) (nodes 0 [] [] model) in
    let m = length values in
    let edges : ResolvedRevolution N → List (List (Edge N)) =
    λ t. map (λ n. n.edges) (nodes m values [] t.operations) in
    (i : ℕ) → i < m → (goes i (edges p) && goes i (edges q)) ≡ false

-- p and q, neighbours among the revolutions
abbrev pub with_both : {N : Numbers} → List (ResolvedOperation N) → List (ResolvedRevolution N) → ResolvedRevolution N
    → ResolvedRevolution N → List (ResolvedRevolution N) → ResolvedSession N
with_both model before p q later = record { model = model; revolutions = before ++ (p ∷ q ∷ later) }

-- a session that resolves to this and is not refused on this machine, in one go; that a pass of it may then be cut is
-- `GoesOn` and `AnyCutting` of crates/tape/specs/Slices.antt
pub record Runnable {N : Numbers} (M : Machine N) (resolved : ResolvedSession N) : Type 0 where
  pub session : Session N
  pub runs : RunsAs session (calls session) M
  pub resolves : resolve session ≡ resolved

-- Proved in proofs/Trade.antt and proofs/Swap.antt
pub record TradingPlaces : Type 1 where
  -- two sessions, each on a machine of its own, that differ in the order of two neighbours that are apart leave the
  -- same model adjoints
  pub same_adjoints : {N : Numbers} (s t : Session N) (cs ds : List (Call N)) (M L : Machine N) (model : List (ResolvedOperation N)) (before later : List (ResolvedRevolution N)) (p q : ResolvedRevolution N) → RunsAs s cs M → RunsAs t ds L
      → resolve s ≡ with_both model before p q later → resolve t ≡ with_both model before q p later
      → Apart model p q → model_adjoints s cs M ≡ model_adjoints t ds L
  -- if one order is not refused, neither is the other, with handles that stand for the same nodes
  pub either_order : {N : Numbers} (s : Session N) (cs : List (Call N)) (M : Machine N) (model : List (ResolvedOperation N)) (before later : List (ResolvedRevolution N)) (p q : ResolvedRevolution N) → RunsAs s cs M
      → resolve s ≡ with_both model before p q later → Runnable M (with_both model before q p later)
