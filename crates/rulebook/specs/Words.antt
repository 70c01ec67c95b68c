-- The words of the rulebook. "Unprimed is the current row, primed the next."
use Rattle.std.specs.Prelude.{true, false, List, [], ◌∷◌, ℕ, ◌+◌, eqb}
use Rattle.algebra.specs.Expr.{Expr, con, ◌⊕◌}
use Rattle.refusals.specs.Refusal.{member}
use Rattle.table.specs.Cells.{Cell, lv, nv}
use Rattle.table.specs.Columns.{COL-IS-EXT-LINE, COL-S-SIMPLE-ARITHMATIC-OP, COL-IS-ENTRY-SC, COL-IS-NEXT-LINE-DIFF-INST, COL-IS-NEXT-LINE-SAME-TX, COL-IS-PADDING}
use Rattle.rulebook.specs.Rule.{Rule, fact, ◌≐◌, deny, ◌and◌, ◌or◌, ◌⇒◌}

-- "diff, same, entry, pad: columns 86, 87, 85, 93"
abbrev pub DIFF : ℕ
DIFF = COL-IS-NEXT-LINE-DIFF-INST

abbrev pub SAME : ℕ
SAME = COL-IS-NEXT-LINE-SAME-TX

abbrev pub ENTRY : ℕ
ENTRY = COL-IS-ENTRY-SC

abbrev pub PAD : ℕ
PAD = COL-IS-PADDING

-- a column is 1, or 0
abbrev pub on : ℕ → Rule
on c = lv c ≐ con 1

abbrev pub off : ℕ → Rule
off c = lv c ≐ con 0

abbrev pub on' : ℕ → Rule
on' c = nv c ≐ con 1

abbrev pub off' : ℕ → Rule
off' c = nv c ≐ con 0

-- "main/ext: IS_EXT_LINE 0/1"
abbrev pub main : Rule
main = off COL-IS-EXT-LINE

abbrev pub ext : Rule
ext = on COL-IS-EXT-LINE

abbrev pub main' : Rule
main' = off' COL-IS-EXT-LINE

abbrev pub ext' : Rule
ext' = on' COL-IS-EXT-LINE

-- the next row has what the current row has, or n more
abbrev pub kept : ℕ → Rule
kept c = nv c ≐ lv c

abbrev pub grows : ℕ → ℕ → Rule
grows c n = nv c ≐ lv c ⊕ con n

-- "0 or 1"
abbrev pub bit : Expr Cell → Rule
bit e = e ≐ con 0 or e ≐ con 1

-- every number, and some number, of a list
abbrev pub every : List ℕ → (ℕ → Rule) → Rule
every [] f = fact true
every (i ∷ is) f = f i and every is f

abbrev pub some : List ℕ → (ℕ → Rule) → Rule
some [] f = fact false
some (i ∷ is) f = f i or some is f

-- column c is 1 where r holds, else 0
abbrev pub tells : ℕ → Rule → Rule
tells c r = (r ⇒ on c) and (deny r ⇒ off c)

-- the current row's kind is j, or one of several
abbrev pub ◌is◌ : ℕ → ℕ → Rule
k is j = fact (eqb k j)

abbrev pub ◌among◌ : ℕ → List ℕ → Rule
k among js = fact (member k js)

infix 50 ◌is◌ ◌among◌
-- the next row's kind is one of several, by its selectors
abbrev pub next_among : List ℕ → Rule
next_among js = some js (λ j. on' (COL-S-SIMPLE-ARITHMATIC-OP + j))
