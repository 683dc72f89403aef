-- The generated source.
use Rattle.std.specs.Prelude.{ℕ, zero, suc, ◌+◌, ◌*◌, ◌/◌, ◌%◌, ◌^◌, ◌==◌, pos, negsuc, if◌then◌else◌, ◌∷◌, decimal, length}
use Rattle.mx_isa.specs.declared.board.TheConstants.{DATA_BASE, CONSOLE}
use Rattle.mx_isa.specs.declared.inst.Cond.TheVariants.{Ne, Lt}
use Rattle.mx_isa.specs.declared.inst.Op.{Op}
use Rattle.mx_isa.specs.declared.inst.Op.TheVariants.{Add, Sub, Xor}
use Rattle.mx_isa.specs.declared.inst.Inst.TheVariants.{Load, Store, Compute, Addi}
use Rattle.mx_source.specs.declared.statement.Statement.TheVariants.{Plain, Branch, Halt}
use Rattle.mx_source.specs.SourceValue.{SourceValue}
use Rattle.mx_gen.specs.Drafts.{Draft, empty, put, name, finished}

-- a draw gives the next number
abbrev pub draw : ℕ → ℕ
draw x = (x * 1664525 + 1013904223) % 2 ^ 32

-- what is read off a number that was drawn: a kind, three registers from r1 to r8, and an address
abbrev pub kind : ℕ → ℕ
kind x = x / 2 ^ 29

abbrev pub first : ℕ → ℕ
first x = 1 + x / 2 ^ 8 % 8

abbrev pub second : ℕ → ℕ
second x = 1 + x / 2 ^ 11 % 8

abbrev pub third : ℕ → ℕ
third x = 1 + x / 2 ^ 14 % 8

abbrev pub address : ℕ → ℕ
address x = DATA_BASE + x / 2 ^ 17 % 64

-- addi r0,#n,r
abbrev pub set : ℕ → ℕ → Draft → Draft
set r n = put (Plain (Addi 0 r (pos n)))

abbrev pub opening : Draft → Draft
opening d = set 8 64 (set 7 49 (set 6 36 (set 5 25 (set 4 16 (set 3 9 (set 2 4 (set 1 1 d)))))))

abbrev pub compute : Op → ℕ → ℕ → ℕ → Draft → Draft
compute op a b dest = put (Plain (Compute a dest b op))

-- three times around: addi r9, then at a label Lj the addition, the count in r9, and the branch back
abbrev pub round : ℕ → ℕ → ℕ → ℕ → Draft → Draft
round j a b c d =
    let begin = name (76 ∷ decimal j) (set 9 3 d) in
    put (Branch 9 0 Ne (suc (length d.statements))) (put (Plain (Addi 9 9 (negsuc 0))) (compute Add a b c begin))

-- a branch over one addition, to a label Sj
abbrev pub skip : ℕ → ℕ → ℕ → ℕ → Draft → Draft
skip j a b c d = name (83 ∷ decimal j) (compute Add c b a (put (Branch a b Lt (suc (suc (length d.statements)))) d))

-- the statements of the item of a number j, from what was drawn for it
abbrev pub item : ℕ → ℕ → Draft → Draft
item x j d =
    if kind x == 0 then compute Add (first x) (second x) (third x) d
    else (if kind x == 1 then compute Sub (first x) (second x) (third x) d
    else (if kind x == 2 then compute Xor (first x) (second x) (third x) d
    else (if kind x == 3 then put (Plain (Store 0 (first x) (pos (address x)))) d
    else (if kind x == 4 then put (Plain (Load 0 (third x) (pos (address x)))) d
    else (if kind x == 5 then round j (first x) (second x) (third x) d
    else (if kind x == 6 then put (Plain (Store 0 (first x) (pos CONSOLE))) d
    else skip j (first x) (second x) (third x) d))))))

-- so many items, from the number j on, each with a draw
abbrev pub items : ℕ → ℕ → ℕ → Draft → Draft
items zero j x d = d
items (suc k) j x d = items k (suc j) (draw x) (item (draw x) j d)

abbrev pub generated : ℕ → ℕ → SourceValue
generated seed count = finished (put Halt (items count 0 seed (opening empty)))
