-- A word stands for what it was made from, and only for that.
use Rattle.std.proofs.Common.{◌≡◌, ℕ, ◌^◌, ◌<◌, ◌≤◌, true, leb, sym, refl, ap, ◌∙◌, arith}
use Rattle.std.proofs.lemmas.Bool.{and_parts, leb-true}
use Rattle.descriptor_words.specs.Words.{packed, form_part, by_part, through_part, value_part, cell_word, cell_of, status_word, status_of, CellFits, StatusFits, numbered}
use Rattle.descriptor_words.specs.declared.cell.Cell.{Cell}
use Rattle.descriptor_words.specs.declared.cell.Cell.TheVariants.{Empty, Plain, Frozen}
use Rattle.descriptor_words.specs.declared.cell.Status.{Status}
use Rattle.descriptor_words.specs.declared.cell.Status.TheVariants.{Pending, Done, Final}

module _ (f k j a : ℕ) (hk : k ≤ 400) (hj : j ≤ 400) (ha : a < 2 ^ 32) where
  form_back : form_part (packed f k j a) ≡ f
  form_back = omega arith

  by_back : by_part (packed f k j a) ≡ k
  by_back = omega arith

  through_back : through_part (packed f k j a) ≡ j
  through_back = omega arith

  value_back : value_part (packed f k j a) ≡ a
  value_back = omega arith

pub in_range : (k : ℕ) → numbered k ≡ true → (1 ≤ k) × (k ≤ 400)
in_range k h = let p = and_parts (leb 1 k) (leb k 400) h in (leb-true 1 k p.0, leb-true k 400 p.1)

pub cell_back : (c : Cell) → CellFits c → cell_of (cell_word c) ≡ c
cell_back (Empty k) h = rw (form_back 0 k 0 0 h (omega arith) (omega arith), by_back 0 k 0 0 h (omega arith) (omega arith)) refl
cell_back (Plain a) h = rw (form_back 1 0 0 a (omega arith) (omega arith) h, value_back 1 0 0 a (omega arith) (omega arith) h) refl
cell_back (Frozen a k j) h =
    let b = (in_range k h.1).1 in
    rw (form_back 2 k j a b h.2 h.0, value_back 2 k j a b h.2 h.0, by_back 2 k j a b h.2 h.0, through_back 2 k j a b h.2 h.0) refl

pub status_back : (s : Status) → StatusFits s → status_of (status_word s) ≡ s
status_back Pending h = refl
status_back (Done a) h = rw (form_back 1 0 0 a (omega arith) (omega arith) h, value_back 1 0 0 a (omega arith) (omega arith) h) refl
status_back (Final a) h = rw (form_back 2 0 0 a (omega arith) (omega arith) h, value_back 2 0 0 a (omega arith) (omega arith) h) refl

-- equal words, equal things
pub cell_same : (c d : Cell) → CellFits c → CellFits d → cell_word c ≡ cell_word d → c ≡ d
cell_same c d fc fd e = sym (cell_back c fc) ∙ ap cell_of e ∙ cell_back d fd

pub status_same : (s v : Status) → StatusFits s → StatusFits v → status_word s ≡ status_word v → s ≡ v
status_same s v fs fv e = sym (status_back s fs) ∙ ap status_of e ∙ status_back v fv
