-- What a writer answers, and the lent bytes after it.
use Rattle.std.specs.Prelude.{ℕ, ◌+◌, cond, List, ◌++◌, leb, length, take, drop}

-- where the text has room from a place on, the place behind it, and the bytes with the text there; otherwise the place
-- itself, and the bytes as they were
abbrev pub written : List ℕ → ℕ → List ℕ → ℕ × List ℕ
written lent at text =
    let end = at + length text in
    cond (leb end (length lent)) (end, take at lent ++ text ++ drop end lent) (at, lent)
