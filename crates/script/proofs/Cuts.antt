-- The lines of a script, one by one.
use Rattle.std.proofs.Common.{◌≡◌, ℕ, zero, suc, ◌<◌, Bool, true, false, cond, not, ◌||◌, eqb, is_some, ltb, List, [], ◌∷◌, length, Some, None, IsAscii, MatchBool, Option, sym, refl, ap, ◌∙◌, ⊎_elim, arith}
use Rattle.script.specs.Opening.{has_header}
use Rattle.std.proofs.lemmas.Bool.{and_from, and_parts, lt-ltb, ltb-true, cases_Bool}
use Rattle.std.specs.Str.{IsNotAscii}
use Rattle.std.specs.Borrow.{Bor}
use Rattle.std.specs.List.{list_any}
use Rattle.std.specs.Option.{option_map, unwrap_or}
use Rattle.script.proofs.Parts.{before_all}
use Rattle.script.specs.Fields.{before, after}
use Rattle.script.specs.Lines.{longer, lines_of, ascii, skipped}

ascii_true : (bs : List ℕ) → IsAscii bs → ascii bs ≡ true
ascii_true [] h = refl
ascii_true (c ∷ cs) h = and_from _ _ (lt-ltb c 128 (h 0)) (ascii_true cs (λ i. h (suc i)))

ascii_each : (bs : List ℕ) → ascii bs ≡ true → IsAscii bs
ascii_each [] e i = omega arith
ascii_each (c ∷ cs) e zero = ltb-true c 128 (and_parts (ltb c 128) (ascii cs) e).0
ascii_each (c ∷ cs) e (suc i) = ascii_each cs (and_parts (ltb c 128) (ascii cs) e).1 i

pub ascii_is : (bs : List ℕ) (r : Bool) → MatchBool r (IsAscii bs) (IsNotAscii bs) → r ≡ ascii bs
ascii_is bs true h = sym (ascii_true bs h)
ascii_is bs false h = ⊎_elim (λ t. absurd (omega (arith, ascii_each bs t h.0, h.1))) (λ f. sym f) (cases_Bool (ascii bs))

cut_if : (b : Bool) (x : ℕ) (xs rest : List ℕ) → (after 10 xs ≡ Some rest → lines_of xs ≡ (before 10 xs, true) ∷ lines_of rest) → cond b (Some xs) (after 10 xs) ≡ Some rest → cond b (([], true) ∷ lines_of xs) (longer x (lines_of xs)) ≡ (cond b [] (x ∷ before 10 xs), true) ∷ lines_of rest
cut_if true x xs rest ih e = let p : xs ≡ rest = cc in ap (λ l. ([], true) ∷ lines_of l) p
cut_if false x xs rest ih e = ap (longer x) (ih e)

pub lines_cut : (xs rest : List ℕ) → after 10 xs ≡ Some rest → lines_of xs ≡ (before 10 xs, true) ∷ lines_of rest
lines_cut [] rest e = let z : ◌≡◌ {A = ℕ} 0 1 = cc in absurd (omega arith)
lines_cut (x ∷ xs) rest e = cut_if (eqb x 10) x xs rest (lines_cut xs rest) e

-- what no line feed ends
abbrev last_line : List ℕ → List (List ℕ × Bool)
last_line [] = []
last_line (x ∷ xs) = ((x ∷ xs), false) ∷ []

last_if : (b : Bool) (x : ℕ) (xs : List ℕ) → (after 10 xs ≡ None → lines_of xs ≡ last_line xs) → cond b (Some xs) (after 10 xs) ≡ None → cond b (([], true) ∷ lines_of xs) (longer x (lines_of xs)) ≡ ((x ∷ xs), false) ∷ []
last_if true x xs ih e = let z : ◌≡◌ {A = ℕ} 0 1 = cc in absurd (omega arith)
last_if false x [] ih e = refl
last_if false x (y ∷ ys) ih e = ap (longer x) (ih e)

lines_end : (xs : List ℕ) → after 10 xs ≡ None → lines_of xs ≡ last_line xs
lines_end [] e = refl
lines_end (x ∷ xs) e = last_if (eqb x 10) x xs (lines_end xs) e

shorter_if : (b : Bool) (xs rest : List ℕ) → (after 10 xs ≡ Some rest → length rest < length xs) → cond b (Some xs) (after 10 xs) ≡ Some rest → length rest < suc (length xs)
shorter_if true xs rest ih e = let p : xs ≡ rest = cc in omega (arith, ap length p)
shorter_if false xs rest ih e = omega (arith, ih e)

pub after_shorter : (xs rest : List ℕ) → after 10 xs ≡ Some rest → length rest < length xs
after_shorter [] rest e = let z : ◌≡◌ {A = ℕ} 0 1 = cc in absurd (omega arith)
after_shorter (x ∷ xs) rest e = shorter_if (eqb x 10) xs rest (after_shorter xs rest) e

first_row : (xs : List ℕ) (r : Option (Bor (List ℕ))) (d : Bor (List ℕ)) → option_map (λ x. x.now) r ≡ after 10 xs → 0 < length xs → d.now ≡ []
    → lines_of xs ≡ (before 10 xs, is_some r) ∷ lines_of (unwrap_or r d).now
first_row xs (Some rest) d a some none = lines_cut xs rest.now (sym a)
first_row [] None d a some none = absurd (omega arith)
first_row (x ∷ xs) None d a some none =
    lines_end (x ∷ xs) (sym a) ∙ ap (λ (t : List ℕ). (t, false) ∷ []) (sym (before_all 10 (x ∷ xs) (sym a)))
    ∙ ap (λ (ls : List (List ℕ × Bool)). (before 10 (x ∷ xs), false) ∷ ls) (ap lines_of (sym none))

left_shorter : (xs : List ℕ) (r : Option (Bor (List ℕ))) (d : Bor (List ℕ)) → option_map (λ x. x.now) r ≡ after 10 xs → 0 < length xs → d.now ≡ []
    → length (unwrap_or r d).now < length xs
left_shorter xs (Some rest) d a some none = after_shorter xs rest.now (sym a)
left_shorter xs None d a some none = omega (arith, ap length none)

-- the first line, whether it is ended, and what is left after it
module _ (xs : List ℕ) (r : Option (Bor (List ℕ))) (rest d : Bor (List ℕ)) (a : option_map (λ x. x.now) r ≡ after 10 xs) (some : 0 < length xs) (is : rest ≡ unwrap_or r d) (none : d.now ≡ []) where
  pub row_first : lines_of xs ≡ (before 10 xs, is_some r) ∷ lines_of rest.now
  row_first = rw is (first_row xs r d a some none)

  pub row_shorter : length rest.now < length xs
  row_shorter = rw is (left_shorter xs r d a some none)

pub any_header : (ls : List (List ℕ × Bool)) → list_any (λ l. not (skipped l.0)) ls ≡ has_header ls
any_header [] = refl
any_header (l ∷ ls) = ap (λ b. not (skipped l.0) || b) (any_header ls)
