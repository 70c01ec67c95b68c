-- What has been printed at a moment, whatever the text of a pair.
use Rattle.std.specs.Prelude.{◌≡◌, ◌⊎◌, List, [], ◌++◌, ℕ}
use Rattle.stream_text.specs.Lines.{refused_of}
use Rattle.stream_model.specs.Model.{PairText, texts_from}
use Rattle.stream_model.specs.Reads.{printed_by, printed_at_end}

-- what is printed, for every text of a pair: the texts of the same pairs, from pair 0 on, then one refusal or nothing
pub record SamePairs (printed : PairText → List ℕ) : Type 0 where
  pub pairs : List (List ℕ)
  pub last : List ℕ
  pub last_is : (last ≡ []) ⊎ ((number : ℕ) × (last ≡ refused_of number))
  pub prints : (text : PairText) → printed text ≡ texts_from text 0 pairs ++ last

-- "each pair's lines at the moment rowdesk prints that pair": after the masks' bytes and any reads, and where they end
pub record Moment (masks : List ℕ) (reads : List (List ℕ)) : Type 0 where
  pub so_far : SamePairs (λ text. printed_by text masks reads)
  pub at_input_end : SamePairs (λ text. printed_at_end text masks reads)
