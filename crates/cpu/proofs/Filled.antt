-- A buffer that is filled part by part, from its first place on, and is kept behind the 226th.
use Prim.Native.Nat.{ℕ, ◌≤◌}
use native.Mathlib.Omega.{arith}
use mathlib.Core.Path.{◌≡◌, refl, sym, ◌∙◌}
use mathlib.Core.List.{List, [], ◌++◌, append_assoc, append-nil}
use lib.ListN.{length, take, drop, length-append, length-take, drop_of_length-le}
use lib.Seq.{take_at}
use Rattle.std.proofs.lemmas.List.{drop_at, drop-drop}

-- what a buffer of just n places is once values stand in front and what is behind the nth place is kept: the values
pub buffer-is : (n : ℕ) (values out : List ℕ) → length out ≡ n → values ++ drop n out ≡ values
buffer-is n values out e =
    let h : length out ≤ n = omega (arith, e) in
    rw (drop_of_length-le out h) (append-nil values)

-- the buffer with n places filled, where k more are written to
abbrev behind : ℕ → ℕ → List ℕ → List ℕ → List ℕ
behind n k buffer part = take n buffer ++ (part ++ drop k (drop n buffer))

more : (done part rest : List ℕ) (n k : ℕ) → length done ≡ n → behind n k (done ++ rest) part ≡ (done ++ part) ++ drop k rest
more done part rest n k e = rw (take_at done rest n e, drop_at done rest n e) (sym (append_assoc done part (drop k rest)))

filled_kept : (a b c d out : List ℕ) → length a ≡ 82 → length b ≡ 62 → length c ≡ 15 →
    behind 159 67 (behind 144 15 (behind 82 62 (a ++ drop 82 (drop 0 out)) b) c) d ≡ a ++ b ++ c ++ d ++ drop 226 out
filled_kept a b c d out i j k =
    let l : length (a ++ b) ≡ 144 = rw (length-append, i, j) refl in
    let m : length (a ++ b ++ c) ≡ 159 = rw (length-append (a ++ b) c, l, k) refl in
    rw (more a b (drop 82 out) 82 62 i, more (a ++ b) c (drop 62 (drop 82 out)) 144 15 l, more (a ++ b ++ c) d (drop 15 (drop 62 (drop 82 out))) 159 67 m, drop-drop 62 82 out, drop-drop 15 144 out, drop-drop 67 159 out) refl

pub filled : (a b c d out : List ℕ) → length a ≡ 82 → length b ≡ 62 → length c ≡ 15 → length out ≡ 226 →
    behind 159 67 (behind 144 15 (behind 82 62 (a ++ drop 82 (drop 0 out)) b) c) d ≡ a ++ b ++ c ++ d
filled a b c d out i j k n = filled_kept a b c d out i j k ∙ buffer-is 226 (a ++ b ++ c ++ d) out n

-- the same where k more are lent, written to, and kept behind the part, where nothing is left
abbrev lent : ℕ → ℕ → List ℕ → List ℕ → List ℕ
lent n k buffer part = take n buffer ++ (part ++ drop k (take k (drop n buffer)) ++ drop k (drop n buffer))

nothing_behind : (n : ℕ) (l : List ℕ) → drop n (take n l) ≡ []
nothing_behind n l = drop_of_length-le (take n l) (simp length-take (omega arith))

lent_is : (n k : ℕ) (buffer part : List ℕ) → lent n k buffer part ≡ behind n k buffer part
lent_is n k buffer part = rw (nothing_behind k (drop n buffer), append-nil part) refl

pub filled_lent : (a b c d out : List ℕ) → length a ≡ 82 → length b ≡ 62 → length c ≡ 15 →
    lent 159 67 (lent 144 15 (lent 82 62 (lent 0 82 out a) b) c) d ≡ a ++ b ++ c ++ d ++ drop 226 out
filled_lent a b c d out i j k =
    rw (lent_is 0 82 out a, lent_is 82 62 _ b, lent_is 144 15 _ c, lent_is 159 67 _ d) (filled_kept a b c d out i j k)
