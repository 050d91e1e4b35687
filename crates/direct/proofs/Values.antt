-- What the plain vector answers, by what an `Option` of a value says.
use Rattle.std.proofs.Common.{◌≡◌, ℕ, ◌-◌, ltb, List, [], ◌∷◌, length, get_or, is_some, Some, None, Option, IfSome, MatchOption, Bor, sym, ap, ◌∙◌, arith}
use Rattle.std.specs.List.{slice_get}
use Rattle.std.specs.Option.{option_copied}
use Rattle.std.proofs.lemmas.Option.{slice_get-get_or, slice_get_past}
use Rattle.std.proofs.lemmas.Bool.{ltb-true, ltb-false}
use Rattle.vector.specs.Plain.{popped, value_or_out}
use Rattle.vector.proofs.Plainly.{popped_nth}
use Rattle.vector.specs.declared.Answer.{Answer}
use Rattle.vector.specs.declared.Answer.TheVariants.{Value, Empty, Out}

pub value_is : (o : Option ℕ) (a : Answer ℕ) → MatchOption o (a ≡ Out) (λ v. a ≡ Value v) → a ≡ value_or_out o
value_is None a h = h
value_is (Some v) a h = h

pub got_is : (xs : List ℕ) (i : ℕ) (o : Option (Bor ℕ)) → is_some o ≡ ltb i (length xs) → IfSome o (λ x. x.now ≡ get_or xs i x.now) → option_copied o ≡ slice_get xs i
got_is xs i None e h = sym (slice_get_past xs i (ltb-false i (length xs) (sym e)))
got_is xs i (Some x) e h = ap Some h ∙ sym (slice_get-get_or xs i x.now (ltb-true i (length xs) (sym e)))

pub popped_is : (xs : List ℕ) (o : Option ℕ) (a : Answer ℕ) → o ≡ slice_get xs (length xs - 1) → MatchOption o (a ≡ Empty) (λ v. a ≡ Value v) → a ≡ popped xs
popped_is xs (Some v) a e h = h ∙ sym (popped_nth xs v (sym e))
popped_is [] None a e h = h
popped_is (x ∷ xs) None a e h =
    let s = e ∙ slice_get-get_or (x ∷ xs) (length (x ∷ xs) - 1) 0 (omega arith) in
    let z : ◌≡◌ {A = ℕ} 0 1 = cc in
    absurd (omega arith)
