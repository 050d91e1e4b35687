-- Digits are read as the number that they stand for, and nothing else is read as a number.
use Rattle.std.proofs.Common.{◌≡◌, ℕ, ◌+◌, ◌-◌, ◌*◌, ◌<◌, Bool, true, false, cond, ◌&&◌, leb, List, [], ◌∷◌, length, Some, None, refl, ap, ◌∙◌, arith}
use Rattle.std.proofs.lemmas.Str.Parse.{digit_from_value}
use Rattle.std.proofs.lemmas.Str.{digit_value_digit}
use Rattle.std.proofs.lemmas.Bool.{and_parts, and_from, le-leb, leb-true, cond-true}
use Rattle.std.specs.Str.Parse.{AllDigits, digits_value_after}
use Rattle.std.specs.Int.{IsInRange}
use Rattle.std.specs.Char.{is_ascii_digit, digit_value}
use Rattle.script.specs.Numbers.{digits_on, number_of}
use Rattle.script_laws.specs.Grammar.{WritesNumber}
use Rattle.script_laws.proofs.Marks.{Lacks}

digit_in : (c : ℕ) → is_ascii_digit c ≡ true → IsInRange 48 57 c
digit_in c t = let p = and_parts (leb 48 c) (leb c 57) t in (leb-true 48 c p.0, leb-true c 57 p.1)

sound_if : (b : Bool) (m k c : ℕ) (cs : List ℕ) → is_ascii_digit c ≡ b → ((j : ℕ) → digits_on j cs ≡ Some k → AllDigits 10 cs × (digits_value_after 10 j cs ≡ k)) → cond b (digits_on (m * 10 + (c - 48)) cs) None ≡ Some k → AllDigits 10 (c ∷ cs) × (digits_value_after 10 m (c ∷ cs) ≡ k)
sound_if true m k c cs t ih e =
    let i = digit_in c t in
    let v = digit_value_digit c i in
    let same : m * 10 + digit_value c ≡ m * 10 + (c - 48) = omega (arith, v) in
    let r = ih (m * 10 + (c - 48)) e in
    ((omega (arith, v, i.1), r.0), ap (λ n. digits_value_after 10 n cs) same ∙ r.1)
sound_if false m k c cs t ih e = let z : ◌≡◌ {A = ℕ} 0 1 = cc in absurd (omega arith)

digits_sound : (m k : ℕ) (ds : List ℕ) → digits_on m ds ≡ Some k → AllDigits 10 ds × (digits_value_after 10 m ds ≡ k)
digits_sound m k [] e = (tt, cc)
digits_sound m k (c ∷ cs) e = sound_if (is_ascii_digit c) m k c cs refl (λ j. digits_sound j k cs) e

digits_complete : (m : ℕ) (ds : List ℕ) → AllDigits 10 ds → digits_on m ds ≡ Some (digits_value_after 10 m ds)
digits_complete m [] h = refl
digits_complete m (c ∷ cs) h =
    let i = digit_from_value c h.0 in
    let t : is_ascii_digit c ≡ true = and_from _ _ (le-leb 48 c i.0) (le-leb c 57 i.1) in
    let same : m * 10 + (c - 48) ≡ m * 10 + digit_value c = omega (arith, digit_value_digit c i) in
    cond-true _ _ _ t ∙ digits_complete (m * 10 + (c - 48)) cs h.1 ∙ ap (λ n. Some (digits_value_after 10 n cs)) same

number_if : (b : Bool) (n : ℕ) (text : List ℕ) → (leb 1 (length text) && leb (length text) 10) ≡ b → cond b (digits_on 0 text) None ≡ Some n → WritesNumber n text
number_if true n text t e =
    let p = and_parts (leb 1 (length text)) (leb (length text) 10) t in
    let d = digits_sound 0 n text e in
    record { some = leb-true 1 (length text) p.0; few = leb-true (length text) 10 p.1; digits = d.0; stands = d.1 }
number_if false n text t e = let z : ◌≡◌ {A = ℕ} 0 1 = cc in absurd (omega arith)

pub number_sound : (n : ℕ) (text : List ℕ) → number_of text ≡ Some n → WritesNumber n text
number_sound n text e = number_if _ n text refl e

pub number_complete : (n : ℕ) (text : List ℕ) → WritesNumber n text → number_of text ≡ Some n
number_complete n text w =
    cond-true _ _ _ (and_from _ _ (le-leb 1 (length text) w.some) (le-leb (length text) 10 w.few))
    ∙ digits_complete 0 text w.digits
    ∙ ap (λ (m : ℕ). Some m) w.stands

pub digits_read : (n : ℕ) (text : List ℕ) → WritesNumber n text → digits_on 0 text ≡ Some n
digits_read n text w = digits_complete 0 text w.digits ∙ ap (λ (m : ℕ). Some m) w.stands

pub digits_lack : (b : ℕ) (ds : List ℕ) → b < 48 → AllDigits 10 ds → Lacks b ds
digits_lack b [] low h = tt
digits_lack b (c ∷ cs) low h = let i = digit_from_value c h.0 in ((λ e. omega (arith, e, i.0)), digits_lack b cs low h.1)
