-- The listing of a log, one record at a time.
use Rattle.std.proofs.Common.{◌≡◌, ℕ, zero, suc, ◌+◌, ◌<◌, ◌≤◌, List, [], ◌∷◌, ◌++◌, length, get_or, take, sym, ap, ◌∙◌, arith, length-append}
use Rattle.std.proofs.lemmas.List.{take_more, flat_map_more}
use Rattle.stepping.specs.declared.Record.{Record}
use Rattle.listing.specs.Listings.{line_of, listing}

module _ {T : Type 0} (text : T → List ℕ) where
  -- one record more
  pub listing_more : (log : List (Record T)) (i : ℕ) (r : Record T) → i < length log → r ≡ get_or log i r → listing text (take i log) ++ line_of text r ≡ listing text (take (i + 1) log)
  listing_more log i r h is = flat_map_more (line_of text) [] (take i log) r ∙ ap (listing text) (ap (λ x. take i log ++ x ∷ []) is ∙ sym (take_more log i r h))

  pub length_more : (log : List (Record T)) (i : ℕ) (r : Record T) → i < length log → r ≡ get_or log i r → length (listing text (take (i + 1) log)) ≡ length (listing text (take i log)) + length (line_of text r)
  length_more log i r h is = ap length (sym (listing_more log i r h is)) ∙ length-append (listing text (take i log)) (line_of text r)

  pub length_part : (i : ℕ) (log : List (Record T)) → length (listing text (take i log)) ≤ length (listing text log)
  length_part zero log = omega arith
  length_part (suc i) [] = omega arith
  length_part (suc i) (r ∷ rs) = omega (arith, length_part i rs, length-append (line_of text r) (listing text (take i rs)), length-append (line_of text r) (listing text rs))

  -- a part of a listing and the line after it are no longer than the whole
  pub line_fits : (log : List (Record T)) (i : ℕ) (r : Record T) → i < length log → r ≡ get_or log i r → length (listing text (take i log)) + length (line_of text r) ≤ length (listing text log)
  line_fits log i r h is = omega (arith, length_more log i r h is, length_part (i + 1) log)
