-- A text is read as an item just where it writes that item.
use Rattle.std.proofs.Common.{◌≡◌, ℕ, ◌+◌, ◌*◌, ◌/◌, ◌^◌, ◌<◌, Bool, true, false, cond, eqb, List, [], ◌∷◌, ◌++◌, length, drop, ℤ, Some, None, Ok, Err, Option, Result, sym, refl, ap, ◌∙◌, subst, inl, inr, ⊎_elim, arith}
use Rattle.std.proofs.lemmas.Bool.{ltb-true, lt-ltb, le-ltb, eqb-true, eq-eqb, ne_eqb, cond-true, cond-false, cases_lt}
use Rattle.std.specs.Option.{option_map}
use Rattle.refusal.specs.declared.Refusal.{Refusal}
use Rattle.refusal.specs.declared.Refusal.TheVariants.{OutOfRange}
use Rattle.items.specs.declared.point.Point.{Point}
use Rattle.script.proofs.Points.{point_from}
use Rattle.script.specs.Fields.{before, after}
use Rattle.script.specs.Numbers.{number_of, minus, unsigned, with_sign, signed_of}
use Rattle.std.proofs.lemmas.Option.{none-some, same_Some}
use Rattle.script.proofs.Parts.{before_all}
use Rattle.script.specs.Items.{within, ranged, number_item, rounded, with_tenth, magnitude_of, coordinate_of, all_within, point_if, point_at, three, last_two, from_x, point_item}
use Rattle.script_laws.specs.Grammar.{WritesNumber, Signed, WritesNumberItem, WritesMagnitude, WritesPoint, Iff}
use Rattle.script_laws.proofs.Marks.{Lacks, lacks_append, before_mark, after_mark, before_lacks, after_lacks, cut, first_lacks}
use Rattle.script_laws.proofs.Numbers.{number_sound, number_complete, digits_read, digits_lack}
use Rattle.script_laws.proofs.Decimals.{below}

-- a sign before what R reads
module _ (R : List ℕ → Option ℕ) (Writes : ℕ → List ℕ → Type 0) (sound : (n : ℕ) (text : List ℕ) → R text ≡ Some n → Writes n text) (complete : (n : ℕ) (text : List ℕ) → Writes n text → R text ≡ Some n) (unsigned_first : (n : ℕ) (text : List ℕ) → Writes n text → minus text ≡ false) where
  split_minus : (text : List ℕ) → minus text ≡ true → text ≡ 45 ∷ drop 1 text
  split_minus [] e = let z : ◌≡◌ {A = ℕ} 0 1 = cc in absurd (omega arith)
  split_minus (x ∷ xs) e = ap (λ y. y ∷ xs) (eqb-true x 45 e)

  sign_if : (b : Bool) (z : ℤ) (text : List ℕ) (o : Option ℕ) → minus text ≡ b → R (cond b (drop 1 text) text) ≡ o → option_map (with_sign b) o ≡ Some z → Signed Writes z text
  sign_if b z text None m r e = absurd (none-some z e)
  sign_if true z text (Some n) m r e = (n, drop 1 text, sound n (drop 1 text) r, inr (split_minus text m, sym (same_Some _ z e)))
  sign_if false z text (Some n) m r e = (n, text, sound n text r, inl (refl, sym (same_Some _ z e)))

  pub signed_sound : (z : ℤ) (text : List ℕ) → option_map (with_sign (minus text)) (R (unsigned text)) ≡ Some z → Signed Writes z text
  signed_sound z text e = sign_if (minus text) z text _ refl refl e

  pub signed_complete : (z : ℤ) (text : List ℕ) → Signed Writes z text → option_map (with_sign (minus text)) (R (unsigned text)) ≡ Some z
  signed_complete z text (n, digits, w, inl p) =
      ap (λ t. option_map (with_sign (minus t)) (R (unsigned t))) p.0 ∙ rw (unsigned_first n digits w, complete n digits w) (ap (λ (y : ℤ). Some y) (sym p.1))
  signed_complete z text (n, digits, w, inr p) =
      ap (λ t. option_map (with_sign (minus t)) (R (unsigned t))) p.0 ∙ rw (complete n digits w) (ap (λ (y : ℤ). Some y) (sym p.1))

number_unsigned : (n : ℕ) (text : List ℕ) → WritesNumber n text → minus text ≡ false
number_unsigned n text w = ne_eqb _ 45 (first_lacks 45 text (digits_lack 45 text (omega arith) w.digits) (omega arith))

-- numbers
range_if : (b : Bool) (z y : ℤ) → within 2147483648 y ≡ b → cond b (Ok y) (Err OutOfRange) ≡ Ok z → (y ≡ z) × (within 2147483648 z ≡ true)
range_if true z y h e = let p : y ≡ z = cc in (p, ap (within 2147483648) (sym p) ∙ h)
range_if false z y h e = let k : ◌≡◌ {A = ℕ} 0 1 = cc in absurd (omega arith)

number_item_if : (o : Option ℤ) (z : ℤ) → ranged o ≡ Ok z → (o ≡ Some z) × (within 2147483648 z ≡ true)
number_item_if None z e = let k : ◌≡◌ {A = ℕ} 0 1 = cc in absurd (omega arith)
number_item_if (Some y) z e = let p = range_if _ z y refl e in (ap (λ (x : ℤ). Some x) p.0, p.1)

pub number_items : (text : List ℕ) (z : ℤ) → Iff (number_item text ≡ Ok z) (WritesNumberItem z text)
number_items text z = (
  λ e. let p = number_item_if (signed_of text) z e in (signed_sound number_of WritesNumber number_sound number_complete number_unsigned z text p.0, ltb-true _ _ p.1),
  λ w. ap ranged (signed_complete number_of WritesNumber number_sound number_complete number_unsigned z text w.0) ∙ cond-true _ _ _ (lt-ltb _ _ w.1),
)

-- one decimal
rounds : (n k : ℕ) → k < 10 → rounded n k ≡ (10 * n + k + 5) / 10
rounds n k h = ⊎_elim (λ low. cond-true _ _ _ (lt-ltb k 5 low) ∙ omega arith) (λ high. cond-false _ _ _ (le-ltb k 5 high) ∙ omega arith) (cases_lt k 5)

one_digit : (k : ℕ) (tenth : List ℕ) → WritesNumber k tenth → length tenth ≡ 1 → k < 10
one_digit k tenth w one =
    let h = below 0 k tenth (digits_read k tenth w) in
    omega (arith, h, ap (λ n. 10 ^ n) one)

tenth_if : (b : Bool) (n m : ℕ) (tenth : List ℕ) (o : Option ℕ) → eqb (length tenth) 1 ≡ b → number_of tenth ≡ o → option_map (rounded n) (cond b o None) ≡ Some m → (k : ℕ) × WritesNumber k tenth × (length tenth ≡ 1) × (rounded n k ≡ m)
tenth_if false n m tenth o t h e = absurd (none-some m e)
tenth_if true n m tenth None t h e = absurd (none-some m e)
tenth_if true n m tenth (Some k) t h e = (k, number_sound k tenth h, eqb-true _ 1 t, same_Some _ m e)

magnitude_if : (m : ℕ) (text : List ℕ) (o : Option ℕ) (r : Option (List ℕ)) → number_of (before 46 text) ≡ o → after 46 text ≡ r → with_tenth o r ≡ Some m → WritesMagnitude m text
magnitude_if m text None r h k e = absurd (none-some m e)
magnitude_if m text (Some n) None h k e = inl (number_sound m text (ap number_of (sym (before_all 46 text k)) ∙ h ∙ e))
magnitude_if m text (Some n) (Some tenth) h k e =
    let t = tenth_if _ n m tenth _ refl refl e in
    inr (n, t.0, before 46 text, tenth, cut 46 text tenth k, number_sound n (before 46 text) h, t.1, t.2, sym t.3 ∙ rounds n t.0 (one_digit t.0 tenth t.1 t.2))

magnitude_sound : (m : ℕ) (text : List ℕ) → magnitude_of text ≡ Some m → WritesMagnitude m text
magnitude_sound m text e = magnitude_if m text _ _ refl refl e

magnitude_complete : (m : ℕ) (text : List ℕ) → WritesMagnitude m text → magnitude_of text ≡ Some m
magnitude_complete m text (inl w) =
    let l : Lacks 46 text = digits_lack 46 text (omega arith) w.digits in
    rw (before_lacks 46 text l, after_lacks 46 text l, number_complete m text w)
magnitude_complete m text (inr (n, k, whole, tenth, is, w, v, one, eq)) =
    let l : Lacks 46 whole = digits_lack 46 whole (omega arith) w.digits in
    ap magnitude_of is
    ∙ rw (before_mark 46 whole tenth l, after_mark 46 whole tenth l, number_complete n whole w, eq-eqb (length tenth) 1 one, number_complete k tenth v)
    (ap (λ (x : ℕ). Some x) (rounds n k (one_digit k tenth v one) ∙ sym eq))

number_first : (n : ℕ) (text rest : List ℕ) → WritesNumber n text → minus (text ++ rest) ≡ false
number_first n [] rest w = absurd (omega (arith, w.some))
number_first n (c ∷ cs) rest w = ne_eqb c 45 (digits_lack 45 (c ∷ cs) (omega arith) w.digits).0

magnitude_unsigned : (m : ℕ) (text : List ℕ) → WritesMagnitude m text → minus text ≡ false
magnitude_unsigned m text (inl w) = number_unsigned m text w
magnitude_unsigned m text (inr (n, k, whole, tenth, is, w, v, one, eq)) = ap minus is ∙ number_first n whole (46 ∷ tenth) w

magnitude_lacks : (m : ℕ) (text : List ℕ) → WritesMagnitude m text → Lacks 44 text
magnitude_lacks m text (inl w) = digits_lack 44 text (omega arith) w.digits
magnitude_lacks m text (inr (n, k, whole, tenth, is, w, v, one, eq)) =
    subst (Lacks 44) (sym is) (lacks_append 44 whole (46 ∷ tenth) (digits_lack 44 whole (omega arith) w.digits) ((λ e. omega (arith, e)), digits_lack 44 tenth (omega arith) v.digits))

coordinate_lacks : (z : ℤ) (text : List ℕ) → Signed WritesMagnitude z text → Lacks 44 text
coordinate_lacks z text (m, digits, w, inl p) = subst (Lacks 44) (sym p.0) (magnitude_lacks m digits w)
coordinate_lacks z text (m, digits, w, inr p) = subst (Lacks 44) (sym p.0) ((λ e. omega (arith, e)), magnitude_lacks m digits w)

coordinate_sound : (z : ℤ) (text : List ℕ) → coordinate_of text ≡ Some z → Signed WritesMagnitude z text
coordinate_sound z text e = signed_sound magnitude_of WritesMagnitude magnitude_sound magnitude_complete magnitude_unsigned z text e

coordinate_complete : (z : ℤ) (text : List ℕ) → Signed WritesMagnitude z text → coordinate_of text ≡ Some z
coordinate_complete z text w = signed_complete magnitude_of WritesMagnitude magnitude_sound magnitude_complete magnitude_unsigned z text w

-- points
point_if_is : (x y z : ℤ) (b : Bool) (e : all_within x y z ≡ b) (p : Point) → point_if x y z b e ≡ Ok p → (x ≡ p.x) × (y ≡ p.y) × (z ≡ p.z)
point_if_is x y z true e p h = let q = given_point h in (ap (λ (o : Point). o.x) q, ap (λ (o : Point). o.y) q, ap (λ (o : Point). o.z) q)
  where
    given_point : {o : Point} → ◌≡◌ {A = Result Point Refusal} (Ok o) (Ok p) → o ≡ p
    given_point k = cc
point_if_is x y z false e p h = let k : ◌≡◌ {A = ℕ} 0 1 = cc in absurd (omega arith)

point_at_is : (x y z : ℤ) (p : Point) → point_at x y z ≡ Ok p → (x ≡ p.x) × (y ≡ p.y) × (z ≡ p.z)
unfolding point_at
point_at_is x y z p h = point_if_is x y z (all_within x y z) refl p h

three_is : (p : Point) (x y z : Option ℤ) → three x y z ≡ Ok p → (x ≡ Some p.x) × (y ≡ Some p.y) × (z ≡ Some p.z)
three_is p None y z e = let k : ◌≡◌ {A = ℕ} 0 1 = cc in absurd (omega arith)
three_is p (Some x) None z e = let k : ◌≡◌ {A = ℕ} 0 1 = cc in absurd (omega arith)
three_is p (Some x) (Some y) None e = let k : ◌≡◌ {A = ℕ} 0 1 = cc in absurd (omega arith)
three_is p (Some x) (Some y) (Some z) e =
    let q = point_at_is x y z p e in
    (ap (λ (n : ℤ). Some n) q.0, ap (λ (n : ℤ). Some n) q.1, ap (λ (n : ℤ). Some n) q.2)

last_two_is : (p : Point) (x rest : List ℕ) (o : Option (List ℕ)) → after 44 rest ≡ o → last_two (coordinate_of x) (before 44 rest) o ≡ Ok p → WritesPoint p (x ++ 44 ∷ rest)
last_two_is p x rest None a e = let k : ◌≡◌ {A = ℕ} 0 1 = cc in absurd (omega arith)
last_two_is p x rest (Some z) a e =
    let q = three_is p (coordinate_of x) (coordinate_of (before 44 rest)) (coordinate_of z) e in
    (x, before 44 rest, z, ap (λ l. x ++ 44 ∷ l) (cut 44 rest z a), coordinate_sound p.x x q.0, coordinate_sound p.y (before 44 rest) q.1, coordinate_sound p.z z q.2)

from_x_is : (p : Point) (text : List ℕ) (o : Option (List ℕ)) → after 44 text ≡ o → from_x (before 44 text) o ≡ Ok p → WritesPoint p text
from_x_is p text None a e = let k : ◌≡◌ {A = ℕ} 0 1 = cc in absurd (omega arith)
from_x_is p text (Some rest) a e = subst (WritesPoint p) (sym (cut 44 text rest a)) (last_two_is p (before 44 text) rest (after 44 rest) refl e)

point_complete : (p : Point) (text : List ℕ) → WritesPoint p text → point_item text ≡ Ok p
point_complete p text (x, y, z, is, wx, wy, wz) =
    let lx = coordinate_lacks p.x x wx in
    let ly = coordinate_lacks p.y y wy in
    ap point_item is
    ∙ rw (
      before_mark 44 x (y ++ 44 ∷ z) lx,
      after_mark 44 x (y ++ 44 ∷ z) lx,
      before_mark 44 y z ly,
      after_mark 44 y z ly,
      coordinate_complete p.x x wx,
      coordinate_complete p.y y wy,
      coordinate_complete p.z z wz,
    ) (sym (point_from p.x p.y p.z (Ok p) (refl, refl, refl)))

pub point_items : (text : List ℕ) (p : Point) → Iff (point_item text ≡ Ok p) (WritesPoint p text)
point_items text p = (λ e. from_x_is p text (after 44 text) refl e, point_complete p text)
