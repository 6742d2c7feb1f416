-- The text of help.
use Rattle.std.specs.Prelude.{ℕ, List, [], ◌∷◌, ◌++◌, codes}
use Rattle.std.specs.List.{flat_map}

-- what `help` answers: these lines
abbrev pub help_text : List ℕ
help_text =
    flat_map (λ (line : List ℕ). line ++ 10 ∷ [])
    (codes "heap WORDS RATIO LOG OWNERS SLOTS   the heap of the session, typed first: heap 64 8 8 2 2"
    ∷ codes "OWNER alloc ROOT FIELDS             a new object; a root is OWNER.SLOT: 1 alloc 1.0 2"
    ∷ codes "OWNER raw ROOT FIELDS               a new object without references"
    ∷ codes "OWNER load ROOT ROOT FIELD          the first root takes what the field holds"
    ∷ codes "OWNER store ROOT FIELD OPERAND      the field takes nil, a root's value or a number"
    ∷ codes "OWNER copy ROOT ROOT                the first root takes what the second holds"
    ∷ codes "OWNER same ROOT ROOT                whether both hold the same"
    ∷ codes "OWNER drop ROOT                     the root becomes nil"
    ∷ codes "begin, shade ROOT                   a cycle begins; a root's object is placed"
    ∷ codes "deal copies N TRAY, deal entries N TRAY, give TRAY, join TRAY TRAY"
    ∷ codes "flip, recall, abandon, idle N       a cycle ends; it deals again; it is given up; it gets N units"
    ∷ codes "resize WORDS                        both spaces get so many words"
    ∷ codes "tickets N, OWNER watch ROOT, unwatch T, gone"
    ∷ codes "stat, dump, trays                   what is there"
    ∷ codes "cycles                              the cycles that ended, a line each"
    ∷ codes "draw FILE                           a picture of the heap, in SVG"
    ∷ codes "help                                this text"
    ∷ [])
