-- Data whose texts tests expect.
use Rattle.std.specs.Prelude.{true, false, [], ◌∷◌, pos, negsuc, codes}
use Rattle.rh_lisp_reader.specs.Atoms.{Boolean, Character, Number}
use Rattle.rh_lisp_reader.specs.Data.{Constant, Datum, Empty, Pair, Symbol, Text, Vector}

-- a datum that has one of each kind in it, and characters and bytes that are written otherwise
abbrev pub each_kind : Datum
each_kind =
    Pair (Constant (Number (pos 10)))
    (Pair (Pair (Constant (Number (negsuc 6))) (Constant (Character 97)))
    (Pair (Text (97 ∷ 34 ∷ 92 ∷ 10 ∷ 9 ∷ []))
    (Pair (Vector (Pair (Symbol (codes "x")) (Pair Empty (Pair (Constant (Boolean true)) Empty))))
    (Pair (Constant (Character 10)) (Pair (Constant (Boolean false)) (Constant (Character 32)))))))
