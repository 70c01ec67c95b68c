-- What an array holds that is made by a function of the index, a closure that changes nothing.
use Prim.Native.Nat.{ℕ, zero, suc, ◌+◌, ◌<◌, ◌≤◌}
use native.Mathlib.Omega.{arith}
use mathlib.Core.Path.{◌≡◌, refl, sym, subst, ap₂, ◌∙◌}
use mathlib.Core.List.{List, [], ◌∷◌, ◌++◌}
use lib.ListN.{length, take, get_or}
use denote.Param.Members.{Mut, Called}
use Rattle.std.specs.Array.{IsFromFnResult, IsFromFnResultFrom}
use Rattle.std.proofs.Math.Seq.{take-suc}
use Rattle.algebra.specs.Expr.{eval}
use Rattle.residue.specs.Residues.{residues}
use Rattle.table.specs.Cells.{Cell}
use Rattle.table.specs.Entry.{Entry, weighted_by, values, each}
use Rattle.parts.specs.Parts.{up_to}
use Rattle.parts.proofs.Laws.{filled, each-is}

-- the first n elements, and all, where each is g's at its place
up_to-taken : (ys : List ℕ) (g : ℕ → ℕ) (n : ℕ) → n ≤ length ys → ((i : ℕ) → i < n → get_or ys i 0 ≡ g i) → take n ys ≡ up_to n g
unfolding up_to
up_to-taken ys g zero l h = refl
up_to-taken ys g (suc n) l h =
    take-suc ys n 0 (omega arith)
    ∙ ap₂ (λ (s : List ℕ) (v : ℕ). s ++ (v ∷ [])) (up_to-taken ys g n (omega arith) (λ i k. h i (omega arith))) (h n (omega arith))

pub up_to-whole : (ys : List ℕ) (n : ℕ) (g : ℕ → ℕ) → length ys ≡ n → ((i : ℕ) → i < n → get_or ys i 0 ≡ g i) → ys ≡ up_to n g
up_to-whole ys n g l h = filled n ys _ l (up_to-taken ys g n (omega arith) h)

module _ {F : Type 0} {g : Mut F (ℕ × Unit {0}) ℕ} {f : F} (h : ℕ → ℕ) (step : (i y : ℕ) (q : F) → Called g f (i, tt) y q → (y ≡ h i) × (q ≡ f)) where
  made_from : (ys : List ℕ) (i n : ℕ) (q : F) → q ≡ f → IsFromFnResultFrom g q ys i n → (j k : ℕ) → k < n → j ≡ i + k → get_or ys j 0 ≡ h j
  made_from ys i zero q e m j k l p = absurd (omega arith)
  made_from ys i (suc n) q e m j zero l p =
      let c = subst (λ (x : F). Called g x (i, tt) m.1 m.0) e m.3 in
      let w : j ≡ i = omega arith in
      rw w (m.2.1 0 ∙ (step i m.1 m.0 c).0)
  made_from ys i (suc n) q e m j (suc k) l p =
      let c = subst (λ (x : F). Called g x (i, tt) m.1 m.0) e m.3 in
      made_from ys (i + 1) n m.0 (step i m.1 m.0 c).1 m.4 j k (omega arith) (omega arith)

  pub made_up_to : (ys : List ℕ) (n : ℕ) → IsFromFnResult g f ys n → ys ≡ up_to n h
  made_up_to ys n m = up_to-whole ys n h m.long (λ i l. made_from ys 0 n f refl m.each i i l (omega arith))

-- the values of entries, one for each index
pub made_each : {F : Type 0} {g : Mut F (ℕ × Unit {0}) ℕ} {f : F} {ys : List ℕ} (env : Cell → ℕ) (n : ℕ) (e : ℕ → Entry) → IsFromFnResult g f ys n →
    ((i y : ℕ) (q : F) → Called g f (i, tt) y q → (y ≡ eval residues env (weighted_by (e i).kind (e i).expr)) × (q ≡ f)) →
    ys ≡ values residues env (each n (λ i. e i ∷ []))
made_each env n e m step = made_up_to _ step _ n m ∙ sym (each-is env n e _ (λ i l. refl))
