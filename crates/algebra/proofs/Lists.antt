-- What is said of the elements of lists; and lists in which no element occurs twice: where each element also stands in a second list,
-- that one is at least as long.
use mathlib.Core.Path.{◌≡◌, refl, sym, ap, ◌∙◌}
use mathlib.Core.Logic.{◌⊎◌, inl, inr, ◌≢◌}
use mathlib.Core.List.{List, [], ◌∷◌, ◌++◌, map}
use Prim.Native.Nat.{ℕ, zero, suc, ◌≤◌, ◌<◌, zero-le, suc-le-suc}
use native.Mathlib.Nat.{eq-or-lt_of_le, le_of_suc-le-suc, not-suc-le-zero, le_step, le_refl}
use lib.ListN.{length, get_or}
use Rattle.algebra.specs.Lists.{All, Mem, NoDup}

abbrev pub Subset : {A : Type 0} → List A → List A → Type 0
Subset xs ys = All (λ x. Mem x ys) xs

module _ {A : Type 0} where
  pub all_map : {P Q : A → Type 0} → ((x : A) → P x → Q x) → (xs : List A) → All P xs → All Q xs
  all_map f [] h = tt
  all_map f (x ∷ xs) h = (f x h.0, all_map f xs h.1)

  pub all_both : {P Q S : A → Type 0} → ((x : A) → P x → Q x → S x) → (xs : List A) → All P xs → All Q xs → All S xs
  all_both f [] h k = tt
  all_both f (x ∷ xs) h k = (f x h.0 k.0, all_both f xs h.1 k.1)

  pub all_append : (P : A → Type 0) (xs ys : List A) → All P xs → All P ys → All P (xs ++ ys)
  all_append P [] ys h k = k
  all_append P (x ∷ xs) ys h k = (h.0, all_append P xs ys h.1 k)

  -- at any place, where it holds of what stands for none
  pub all_at : (P : A → Type 0) (d : A) → P d → (xs : List A) → All P xs → (i : ℕ) → P (get_or xs i d)
  all_at P d h [] k i = h
  all_at P d h (x ∷ xs) k zero = k.0
  all_at P d h (x ∷ xs) k (suc i) = all_at P d h xs k.1 i

  pub all_of_mem : {P : A → Type 0} (xs : List A) → ((x : A) → Mem x xs → P x) → All P xs
  all_of_mem [] h = tt
  all_of_mem (x ∷ xs) h = (h x (inl refl), all_of_mem xs (λ y m. h y (inr m)))

  -- the elements of two lists, one behind the other
  pub mem_left : (x : A) (xs ys : List A) → Mem x xs → Mem x (xs ++ ys)
  mem_left x [] ys m = absurd m
  mem_left x (y ∷ xs) ys (inl e) = inl e
  mem_left x (y ∷ xs) ys (inr m) = inr (mem_left x xs ys m)

  pub mem_right : (x : A) (xs ys : List A) → Mem x ys → Mem x (xs ++ ys)
  mem_right x [] ys m = m
  mem_right x (y ∷ xs) ys m = inr (mem_right x xs ys m)

  pub mem_cases : (x : A) (xs ys : List A) {B : Type 0} → (Mem x xs → B) → (Mem x ys → B) → Mem x (xs ++ ys) → B
  mem_cases x [] ys f g m = g m
  mem_cases x (y ∷ xs) ys f g (inl e) = f (inl e)
  mem_cases x (y ∷ xs) ys f g (inr m) = mem_cases x xs ys (λ n. f (inr n)) g m

  abbrev pub remove : (x : A) (ys : List A) → Mem x ys → List A
  remove x [] m = []
  remove x (y ∷ ys) (inl e) = ys
  remove x (y ∷ ys) (inr m) = y ∷ remove x ys m

  pub length_remove : (x : A) (ys : List A) (m : Mem x ys) → length ys ≡ suc (length (remove x ys m))
  length_remove x [] m = absurd m
  length_remove x (y ∷ ys) (inl e) = refl
  length_remove x (y ∷ ys) (inr m) = ap suc (length_remove x ys m)

  mem_remove : (x : A) (ys : List A) (m : Mem x ys) (z : A) → x ≢ z → Mem z ys → Mem z (remove x ys m)
  mem_remove x [] m z n k = absurd m
  mem_remove x (y ∷ ys) (inl e) z n (inl k) = absurd (n (e ∙ sym k))
  mem_remove x (y ∷ ys) (inl e) z n (inr k) = k
  mem_remove x (y ∷ ys) (inr m) z n (inl k) = inl k
  mem_remove x (y ∷ ys) (inr m) z n (inr k) = inr (mem_remove x ys m z n k)

  pub subset_remove : (x : A) (xs ys : List A) (m : Mem x ys) → All (λ z. x ≢ z) xs → Subset xs ys → Subset xs (remove x ys m)
  subset_remove x xs ys m = all_both (λ z n k. mem_remove x ys m z n k) xs

  pub pigeonhole : (xs ys : List A) → NoDup xs → Subset xs ys → length xs ≤ length ys
  pigeonhole [] ys n s = zero-le
  pigeonhole (x ∷ xs) ys n s =
      rw (length_remove x ys s.0)
      (suc-le-suc (pigeonhole xs (remove x ys s.0) n.1 (subset_remove x xs ys s.0 n.0 s.1)))

-- the numbers below n
abbrev pub below : ℕ → List ℕ
below zero = []
below (suc n) = n ∷ below n

pub length-below : (n : ℕ) → length (below n) ≡ n
length-below zero = refl
length-below (suc n) = ap suc (length-below n)

pub mem_below : (n i : ℕ) → i < n → Mem i (below n)
mem_below zero i h = not-suc-le-zero h
mem_below (suc n) i h = step (eq-or-lt_of_le (le_of_suc-le-suc h)) (λ l. mem_below n i l)
  where
    step : (i ≡ n) ⊎ (i < n) → (i < n → Mem i (below n)) → Mem i (below (suc n))
    step (inl e) k = inl e
    step (inr l) k = inr (k l)

module _ {A : Type 0} (f : ℕ → A) where
  pub all_map-below : (P : A → Type 0) (n : ℕ) → ((i : ℕ) → i < n → P (f i)) → All P (map f (below n))
  all_map-below P zero h = tt
  all_map-below P (suc n) h = (h n (le_refl (suc n)), all_map-below P n (λ i l. h i (le_step l)))

  pub length-map-below : (n : ℕ) → length (map f (below n)) ≡ n
  length-map-below zero = refl
  length-map-below (suc n) = ap suc (length-map-below n)

  pub nodup_map-below : (n : ℕ) → ((i j : ℕ) → i < j → j < n → f i ≢ f j) → NoDup (map f (below n))
  nodup_map-below zero h = tt
  nodup_map-below (suc n) h =
      (all_map-below (λ y. f n ≢ y) n (λ i l e. h i n l (le_refl (suc n)) (sym e)), nodup_map-below n (λ i j l u. h i j l (le_step u)))

-- n distinct numbers below m are at most m
pub pigeonhole-ℕ : (f : ℕ → ℕ) (n m : ℕ) → ((i : ℕ) → f i < m) → ((i j : ℕ) → i < j → j < n → f i ≢ f j) → n ≤ m
pigeonhole-ℕ f n m lt inj =
    rw (length-map-below f n, length-below m) at
    (pigeonhole (map f (below n)) (below m) (nodup_map-below f n inj) (all_map-below f (λ y. Mem y (below m)) n (λ i l. mem_below m (f i) (lt i))))
