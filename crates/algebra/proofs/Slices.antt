-- Parts of a slice.
use mathlib.Core.Path.{◌≡◌}
use mathlib.Core.List.{List}
use Prim.Native.Nat.{ℕ, ◌-◌}
use native.Mathlib.Nat.{le_of_eq}
use lib.ListN.{length, take, drop, length-drop}
use lib.Seq.{take_all}

-- a part that reaches to the end, `&l[n..]`
pub to_end : {A : Type 0} (n : ℕ) (l : List A) → take (length l - n) (drop n l) ≡ drop n l
to_end n l = take_all (length l - n) (drop n l) (le_of_eq (length-drop n l))
