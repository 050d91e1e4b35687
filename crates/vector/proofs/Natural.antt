-- The plain vector does not look into its values: turned into others on the way in, they come out turned.
use Rattle.std.proofs.Common.{◌≡◌, ℕ, zero, suc, Bool, true, false, cond, ltb, List, [], ◌∷◌, ◌++◌, map, length, set, Some, None, Option, sym, refl, ap}
use Rattle.std.specs.List.{slice_get, AllByRecursion}
use Rattle.std.specs.Option.{option_map}
use Rattle.std.proofs.lemmas.List.{length-map, map_push, map-set}
use Rattle.std.proofs.ByRecursion.{All-push, All-set}
use Rattle.vector.specs.Plain.{answer, after, map_op, map_answer, value_or_out, index_fits, last, but_last, popped, after_pop}
use Rattle.vector.specs.declared.Op.{Op}
use Rattle.vector.specs.declared.Op.TheVariants.{Push, Pop, Read, Write, Size}
use Rattle.vector.specs.declared.Answer.{Answer}
use Rattle.vector.specs.declared.Answer.TheVariants.{Position, Value, Full, Out, Done, Length}

module _ {V W : Type 0} (f : V → W) where
  nth_map : (xs : List V) (i : ℕ) → slice_get (map f xs) i ≡ option_map f (slice_get xs i)
  nth_map [] i = refl
  nth_map (x ∷ xs) zero = refl
  nth_map (x ∷ xs) (suc i) = nth_map xs i

  value_or_map : (o : Option V) → value_or_out (option_map f o) ≡ map_answer f (value_or_out o)
  value_or_map (Some v) = refl
  value_or_map None = refl

  last_map : (v : V) (xs : List V) → last (f v) (map f xs) ≡ f (last v xs)
  last_map v [] = refl
  last_map v (x ∷ xs) = last_map x xs

  but_last_map : (v : V) (xs : List V) → but_last (f v) (map f xs) ≡ map f (but_last v xs)
  but_last_map v [] = refl
  but_last_map v (x ∷ xs) = ap (λ (ys : List W). f v ∷ ys) (but_last_map x xs)

  popped_map : (xs : List V) → popped (map f xs) ≡ map_answer f (popped xs)
  popped_map [] = refl
  popped_map (x ∷ xs) = ap Value (last_map x xs)

  after_pop_map : (xs : List V) → after_pop (map f xs) ≡ map f (after_pop xs)
  after_pop_map [] = refl
  after_pop_map (x ∷ xs) = but_last_map x xs

  write_map : (b : Bool) (xs : List V) (i : ℕ) (v : V) → cond b (set (map f xs) i (f v)) (map f xs) ≡ map f (cond b (set xs i v) xs)
  write_map true xs i v = sym (map-set f xs i v)
  write_map false xs i v = refl

  push_map : (b : Bool) (xs : List V) (v : V) → cond b (map f xs ++ f v ∷ []) (map f xs) ≡ map f (cond b (xs ++ v ∷ []) xs)
  push_map true xs v = sym (map_push f xs v)
  push_map false xs v = refl

  either_map : (b : Bool) (x y : Answer V) → cond b (map_answer f x) (map_answer f y) ≡ map_answer f (cond b x y)
  either_map true x y = refl
  either_map false x y = refl

  pub after_map : (k : ℕ) (xs : List V) (op : Op V) → after k (map f xs) (map_op f op) ≡ map f (after k xs op)
  after_map k xs (Push v) = rw (length-map xs f) (push_map (ltb (length xs) k) xs v)
  after_map k xs Pop = after_pop_map xs
  after_map k xs (Read i) = refl
  after_map k xs (Write i v) = rw (length-map xs f) (write_map (ltb i (length xs)) xs i v)
  after_map k xs Size = refl

  pub answer_map : (k : ℕ) (xs : List V) (op : Op V) → answer k (map f xs) (map_op f op) ≡ map_answer f (answer k xs op)
  answer_map k xs (Push v) = rw (length-map xs f) (either_map (ltb (length xs) k) (Position (length xs)) Full)
  answer_map k xs Pop = popped_map xs
  answer_map k xs (Read i) = rw (nth_map xs i) (value_or_map (slice_get xs i))
  answer_map k xs (Write i v) = rw (length-map xs f) (either_map (ltb i (length xs)) Done Out)
  answer_map k xs Size = ap Length (length-map xs f)

  pub index_fits_map : (k : ℕ) (op : Op V) → index_fits k (map_op f op) ≡ index_fits k op
  index_fits_map k (Push v) = refl
  index_fits_map k Pop = refl
  index_fits_map k (Read i) = refl
  index_fits_map k (Write i v) = refl
  index_fits_map k Size = refl

-- Where the values of an operation and of the list come back, so do those of the answer and of the list after.
module _ {V W : Type 0} (f : V → W) (g : W → V) where
  abbrev pub Back : V → Type 0
  Back x = g (f x) ≡ x

  read_back : (xs : List V) (i : ℕ) → AllByRecursion Back xs → map_answer g (map_answer f (value_or_out (slice_get xs i))) ≡ value_or_out (slice_get xs i)
  read_back [] i all = refl
  read_back (x ∷ xs) zero all = ap Value all.0
  read_back (x ∷ xs) (suc i) all = read_back xs i all.1

  last_back : (v : V) (xs : List V) → Back v → AllByRecursion Back xs → Back (last v xs)
  last_back v [] h all = h
  last_back v (x ∷ xs) h all = last_back x xs all.0 all.1

  but_last_back : (v : V) (xs : List V) → Back v → AllByRecursion Back xs → AllByRecursion Back (but_last v xs)
  but_last_back v [] h all = tt
  but_last_back v (x ∷ xs) h all = (h, but_last_back x xs all.0 all.1)

  popped_back : (xs : List V) → AllByRecursion Back xs → map_answer g (map_answer f (popped xs)) ≡ popped xs
  popped_back [] all = refl
  popped_back (x ∷ xs) all = ap Value (last_back x xs all.0 all.1)

  after_pop_back : (xs : List V) → AllByRecursion Back xs → AllByRecursion Back (after_pop xs)
  after_pop_back [] all = tt
  after_pop_back (x ∷ xs) all = but_last_back x xs all.0 all.1

  cond_back : (b : Bool) (x y : Answer V) → map_answer g (map_answer f x) ≡ x → map_answer g (map_answer f y) ≡ y → map_answer g (map_answer f (cond b x y)) ≡ cond b x y
  cond_back true x y p q = p
  cond_back false x y p q = q

  pub answer_back : (k : ℕ) (xs : List V) (op : Op V) → AllByRecursion Back xs → map_answer g (map_answer f (answer k xs op)) ≡ answer k xs op
  answer_back k xs (Push v) all = cond_back (ltb (length xs) k) (Position (length xs)) Full refl refl
  answer_back k xs Pop all = popped_back xs all
  answer_back k xs (Read i) all = read_back xs i all
  answer_back k xs (Write i v) all = cond_back (ltb i (length xs)) Done Out refl refl
  answer_back k xs Size all = refl

  push_all : (b : Bool) (xs : List V) (v : V) → AllByRecursion Back xs → Back v → AllByRecursion Back (cond b (xs ++ v ∷ []) xs)
  push_all true xs v all h = All-push Back xs v all h
  push_all false xs v all h = all

  write_all : (b : Bool) (xs : List V) (i : ℕ) (v : V) → AllByRecursion Back xs → Back v → AllByRecursion Back (cond b (set xs i v) xs)
  write_all true xs i v all h = All-set Back xs i v h all
  write_all false xs i v all h = all

  pub after_back : (k : ℕ) (xs : List V) (op : Op V) → map_op g (map_op f op) ≡ op → AllByRecursion Back xs → AllByRecursion Back (after k xs op)
  after_back k xs (Push v) e all = let h : Back v = cc in push_all (ltb (length xs) k) xs v all h
  after_back k xs Pop e all = after_pop_back xs all
  after_back k xs (Read i) e all = all
  after_back k xs (Write i v) e all = let h : Back v = cc in write_all (ltb i (length xs)) xs i v all h
  after_back k xs Size e all = all
