-- Texts without a mark, and where a mark cuts.
use Rattle.std.proofs.Common.{◌≡◌, ℕ, suc, ◌+◌, ◌-◌, ◌*◌, ◌/◌, ◌%◌, ◌^◌, ◌<◌, Bool, true, false, cond, eqb, List, [], ◌∷◌, ◌++◌, length, get_or, ℤ, pos, negsuc, Some, None, decimal, refl, ap, ◌∙◌, arith}
use lib.Signed.{mag}
use Rattle.std.proofs.lemmas.Fmt.{decimal_by_steps, length-decimal-le, decimal_nonempty}
use Rattle.std.proofs.lemmas.Bool.{cond-true, cond-false, eq-eqb, ne_eqb, eqb-true, le-leb, and_from}
use Rattle.std.specs.Char.{is_ascii_digit}
use Rattle.std.specs.Fmt.{signed_decimal}
use Rattle.script.specs.Fields.{before, after}
use Rattle.script.specs.Numbers.{digits_on, number_of}

abbrev pub Lacks : ℕ → List ℕ → Type 0
Lacks b [] = Unit {0}
Lacks b (x ∷ xs) = (x ≡ b → ⊥) × Lacks b xs

pub lacks_push : (b : ℕ) (xs : List ℕ) (y : ℕ) → Lacks b xs → (y ≡ b → ⊥) → Lacks b (xs ++ y ∷ [])
lacks_push b [] y h ne = (ne, tt)
lacks_push b (x ∷ xs) y h ne = (h.0, lacks_push b xs y h.1 ne)

pub lacks_append : (b : ℕ) (xs ys : List ℕ) → Lacks b xs → Lacks b ys → Lacks b (xs ++ ys)
lacks_append b [] ys h k = k
lacks_append b (x ∷ xs) ys h k = (h.0, lacks_append b xs ys h.1 k)

pub before_mark : (b : ℕ) (xs ys : List ℕ) → Lacks b xs → before b (xs ++ b ∷ ys) ≡ xs
before_mark b [] ys h = cond-true _ _ _ (eq-eqb b b refl)
before_mark b (x ∷ xs) ys h = cond-false _ _ _ (ne_eqb x b h.0) ∙ ap (λ l. x ∷ l) (before_mark b xs ys h.1)

pub after_mark : (b : ℕ) (xs ys : List ℕ) → Lacks b xs → after b (xs ++ b ∷ ys) ≡ Some ys
after_mark b [] ys h = cond-true _ _ _ (eq-eqb b b refl)
after_mark b (x ∷ xs) ys h = cond-false _ _ _ (ne_eqb x b h.0) ∙ after_mark b xs ys h.1

pub before_lacks : (b : ℕ) (xs : List ℕ) → Lacks b xs → before b xs ≡ xs
before_lacks b [] h = refl
before_lacks b (x ∷ xs) h = cond-false _ _ _ (ne_eqb x b h.0) ∙ ap (λ l. x ∷ l) (before_lacks b xs h.1)

pub after_lacks : (b : ℕ) (xs : List ℕ) → Lacks b xs → after b xs ≡ None
after_lacks b [] h = refl
after_lacks b (x ∷ xs) h = cond-false _ _ _ (ne_eqb x b h.0) ∙ after_lacks b xs h.1

pub decimal_lacks : (b n : ℕ) → b < 48 → n < 2 ^ 64 → Lacks b (decimal n)
decimal_lacks b n low fits =
    decimal_by_steps (λ _ ds. Lacks b ds) (λ m h. ((λ e. omega (arith, e)), tt)) (λ m ds h was. lacks_push b ds (48 + m % 10) was (λ e. omega (arith, e))) n fits

digit : (d : ℕ) → d < 10 → is_ascii_digit (48 + d) ≡ true
digit d h = and_from _ _ (le-leb 48 (48 + d) (omega arith)) (le-leb (48 + d) 57 (omega arith))

push_if : (b : Bool) (m k d : ℕ) (c : ℕ) (cs : List ℕ) → ((j : ℕ) → digits_on j cs ≡ Some k → digits_on j (cs ++ (48 + d) ∷ []) ≡ Some (k * 10 + d)) → cond b (digits_on (m * 10 + (c - 48)) cs) None ≡ Some k → cond b (digits_on (m * 10 + (c - 48)) (cs ++ (48 + d) ∷ [])) None ≡ Some (k * 10 + d)
push_if true m k d c cs ih e = ih _ e
push_if false m k d c cs ih e = let z : ◌≡◌ {A = ℕ} 0 1 = cc in absurd (omega arith)

digits_push : (m k d : ℕ) (ds : List ℕ) → d < 10 → digits_on m ds ≡ Some k → digits_on m (ds ++ (48 + d) ∷ []) ≡ Some (k * 10 + d)
digits_push m k d [] h e =
    let p : m ≡ k = cc in
    let q : m * 10 + (48 + d - 48) ≡ k * 10 + d = omega (arith, p) in
    cond-true _ _ _ (digit d h) ∙ ap (λ (n : ℕ). Some n) q
digits_push m k d (c ∷ cs) h e = push_if (is_ascii_digit c) m k d c cs (λ j. digits_push j k d cs h) e

digits_decimal : (n : ℕ) → n < 2 ^ 64 → digits_on 0 (decimal n) ≡ Some n
digits_decimal n fits =
    decimal_by_steps (λ m ds. digits_on 0 ds ≡ Some m)
    (λ m h. let e : 0 * 10 + (48 + m - 48) ≡ m = omega arith in cond-true _ _ _ (digit m h) ∙ ap (λ (k : ℕ). Some k) e)
    (λ m ds h was. let e : m / 10 * 10 + m % 10 ≡ m = omega arith in digits_push 0 (m / 10) (m % 10) ds (omega arith) was ∙ ap (λ (k : ℕ). Some k) e)
    n fits

pub number_decimal : (n : ℕ) → n < 10 ^ 10 → number_of (decimal n) ≡ Some n
number_decimal n h =
    let few = length-decimal-le 10 n (omega arith) h (omega arith) in
    let some = decimal_nonempty n (omega arith) in
    cond-true _ _ _ (and_from _ _ (le-leb 1 (length (decimal n)) (omega arith)) (le-leb (length (decimal n)) 10 few)) ∙ digits_decimal n (omega arith)

pub first_lacks : (b : ℕ) (xs : List ℕ) → Lacks b xs → 0 < b → get_or xs 0 0 ≡ b → ⊥
first_lacks b [] h some e = omega (arith, e)
first_lacks b (x ∷ xs) h some e = h.0 e

pub signed_lacks : (b : ℕ) (z : ℤ) → b < 45 → mag z < 2 ^ 63 → Lacks b (signed_decimal z)
signed_lacks b (pos n) low fits = decimal_lacks b n (omega arith) (omega arith)
signed_lacks b (negsuc n) low fits = ((λ e. omega (arith, e)), decimal_lacks b (suc n) (omega arith) (omega arith))

-- a text that has the mark is what stands before it, the mark, and what stands after it
cut_if : (t : Bool) (b x : ℕ) (xs rest : List ℕ) → eqb x b ≡ t → (after b xs ≡ Some rest → xs ≡ before b xs ++ b ∷ rest) → cond t (Some xs) (after b xs) ≡ Some rest → x ∷ xs ≡ cond t [] (x ∷ before b xs) ++ b ∷ rest
cut_if true b x xs rest t ih e = let p : xs ≡ rest = cc in let q = eqb-true x b t in cc
cut_if false b x xs rest t ih e = ap (λ l. x ∷ l) (ih e)

pub cut : (b : ℕ) (xs rest : List ℕ) → after b xs ≡ Some rest → xs ≡ before b xs ++ b ∷ rest
cut b [] rest e = let z : ◌≡◌ {A = ℕ} 0 1 = cc in absurd (omega arith)
cut b (x ∷ xs) rest e = cut_if (eqb x b) b x xs rest refl (cut b xs rest) e
