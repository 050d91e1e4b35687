-- Lemmas on logs: one record more, and what stands among the records of one number.
use Rattle.std.proofs.Common.{◌≡◌, ℕ, ◌+◌, ◌<◌, ◌≤◌, Bool, true, false, cond, eqb, ◌≢◌, ◌⊎◌, List, [], ◌∷◌, ◌++◌, map, length, get_or, take, drop, set, None, sym, refl, ap, ◌∙◌, subst, inl, inr, append_assoc, arith, eq-eqb, ne_eqb}
use Rattle.std.specs.List.{flat_map}
use Rattle.std.proofs.lemmas.List.{append-nil, map_push, take_all, take-append-le, length-take-le, take_more, take_more_set, drop-drop, drop-set-lt}
use Rattle.std.proofs.lemmas.Grind.{flat_map-append}
use Rattle.std.proofs.lemmas.List.Elements.{filter-append}
use Rattle.std.proofs.lemmas.Bool.{cases_lt}
use Rattle.std.proofs.lemmas.List.Sums.{fold_push}
use Rattle.vector.specs.Plain.{answer, after}
use Rattle.vector.specs.declared.Op.{Op}
use Rattle.vector.specs.declared.Answer.{Answer}
use Rattle.stepping.specs.Log.{number_of, about, told, follow, Among, begins, effects, ends, begin_of, effect_of}
use Rattle.stepping.specs.Runs.{plain_answers, plain_items}
use Rattle.stepping.specs.declared.Record.{Record}
use Rattle.stepping.specs.declared.Record.TheVariants.{Begin, Effect, End}

module _ {X : Type 0} where
  pub among_left : (x : X) (xs ys : List X) → Among x xs → Among x (xs ++ ys)
  among_left x [] ys h = absurd h
  among_left x (y ∷ xs) ys (inl e) = inl e
  among_left x (y ∷ xs) ys (inr h) = inr (among_left x xs ys h)

  pub among_right : (x : X) (xs ys : List X) → Among x ys → Among x (xs ++ ys)
  among_right x [] ys h = h
  among_right x (y ∷ xs) ys h = inr (among_right x xs ys h)

  pub among_last : (xs : List X) (x : X) → Among x (xs ++ x ∷ [])
  among_last xs x = among_right x xs (x ∷ []) (inl refl)

  pub among_push : (xs : List X) (x y : X) → Among x (xs ++ y ∷ []) → Among x xs ⊎ (x ≡ y)
  among_push [] x y (inl e) = inr e
  among_push [] x y (inr h) = absurd h
  among_push (z ∷ xs) x y (inl e) = inl (inl e)
  among_push (z ∷ xs) x y (inr h) = elim (among_push xs x y h) [ inl i ↦ inl (inr i) | inr e ↦ inr e ]

  -- a list that fits and grows by none
  pub nothing_more : (n : ℕ) (xs more : List X) → more ≡ [] → length xs ≤ n → xs ≡ take n (xs ++ more)
  nothing_more n xs more none fits = sym (ap (λ (l : List X). take n (xs ++ l)) none ∙ ap (take n) (append-nil xs) ∙ take_all n xs fits)

  -- a list that is cut at a length, then grown and cut again, is cut once
  cut_twice : (n : ℕ) (xs ys : List X) → take n (take n xs ++ ys) ≡ take n (xs ++ ys)
  cut_twice n xs ys =
      elim (cases_lt (length xs) n) [
        | inl short ↦ ap (λ (l : List X). take n (l ++ ys)) (take_all n xs (omega arith))
        | inr long ↦
            let cut : length (take n xs) ≡ n = length-take-le n xs long in
            take-append-le n (take n xs) ys (omega (arith, cut)) ∙ take_all n (take n xs) (omega (arith, cut)) ∙ sym (take-append-le n xs ys long)
      ]

  -- and twice, the second time after the first
  pub grown_twice : (n m : ℕ) (xs ys zs a a' b b' : List X) → ys ≡ take n (xs ++ a) → a ≡ a' → m ≡ n → zs ≡ take m (ys ++ b) → b ≡ b' → zs ≡ take n (xs ++ (a' ++ b'))
  grown_twice n m xs ys zs a a' b b' first is same second is' =
      second ∙ ap (λ k. take k (ys ++ b)) same ∙ ap (λ (l : List X). take n (l ++ b)) first ∙ cut_twice n (xs ++ a) b ∙ ap (take n) (append_assoc xs a b)
      ∙ ap (λ (l : List X). take n (xs ++ (l ++ b))) is ∙ ap (λ (l : List X). take n (xs ++ (a' ++ l))) is'

pub joined_push : {X A : Type 0} (f : X → List A) (xs : List X) (x : X) → flat_map f (xs ++ x ∷ []) ≡ flat_map f xs ++ f x
joined_push f xs x = flat_map-append f xs (x ∷ []) ∙ ap (λ l. flat_map f xs ++ l) (append-nil (f x))

module _ {T : Type 0} where
  pub about_same : (log : List (Record T)) (r : Record T) → about (number_of r) (log ++ r ∷ []) ≡ about (number_of r) log ++ r ∷ []
  about_same log r =
      filter-append (λ q. eqb (number_of q) (number_of r)) log (r ∷ [])
      ∙ ap (λ b. about (number_of r) log ++ cond b (r ∷ []) []) (eq-eqb (number_of r) (number_of r) refl)

  pub about_other : (log : List (Record T)) (r : Record T) (n : ℕ) → number_of r ≢ n → about n (log ++ r ∷ []) ≡ about n log
  about_other log r n apart =
      filter-append (λ q. eqb (number_of q) n) log (r ∷ []) ∙ ap (λ b. about n log ++ cond b (r ∷ []) []) (ne_eqb (number_of r) n apart)
      ∙ append-nil (about n log)

  pub told_push : (t : ℕ) (log : List (Record T)) (r : Record T) → told t (log ++ r ∷ []) ≡ follow t (told t log) r
  told_push t log r = fold_push (follow t) None log r

  pub answers_push : (k : ℕ) (xs : List T) (ops : List (ℕ × Op T)) (n : ℕ) (op : Op T) → plain_answers k xs (ops ++ (n, op) ∷ []) ≡ plain_answers k xs ops ++ (n, answer k (plain_items k xs ops) op) ∷ []
  answers_push k xs [] n op = refl
  answers_push k xs ((m, o) ∷ ops) n op = ap (λ l. (m, answer k xs o) ∷ l) (answers_push k (after k xs o) ops n op)

  pub items_push : (k : ℕ) (xs : List T) (ops : List (ℕ × Op T)) (n : ℕ) (op : Op T) → plain_items k xs (ops ++ (n, op) ∷ []) ≡ after k (plain_items k xs ops) op
  items_push k xs [] n op = refl
  items_push k xs ((m, o) ∷ ops) n op = items_push k (after k xs o) ops n op

  -- what stands among the records of a number stands in the log
  about_log : (log : List (Record T)) (n : ℕ) (r : Record T) → Among r (about n log) → Among r log
  about_log [] n r h = h
  about_log (q ∷ log) n r h = go (about_log log n r) (eqb (number_of q) n) h
    where
      go : (Among r (about n log) → Among r log) → (b : Bool) → Among r (cond b (q ∷ about n log) (about n log)) → Among r (q ∷ log)
      go rest true (inl e) = inl e
      go rest true (inr i) = inr (rest i)
      go rest false i = inr (rest i)

  -- and the other way round, of a record of that number
  log_about : (log : List (Record T)) (r : Record T) → Among r log → Among r (about (number_of r) log)
  log_about [] r h = h
  log_about (q ∷ log) r (inl e) =
      let same : eqb (number_of q) (number_of r) ≡ true = eq-eqb (number_of q) (number_of r) (ap number_of (sym e)) in
      rw same (inl e)
  log_about (q ∷ log) r (inr h) = go (log_about log r h) (eqb (number_of q) (number_of r))
    where
      go : Among r (about (number_of r) log) → (b : Bool) → Among r (cond b (q ∷ about (number_of r) log) (about (number_of r) log))
      go rest true = inr rest
      go rest false = rest

  -- a record that is a begin, an effect or an end of the log
  among_joined : {A : Type 0} (f : Record T → List A) (log : List (Record T)) (r : Record T) (a : A) → Among r log → Among a (f r) → Among a (flat_map f log)
  among_joined f [] r a h i = absurd h
  among_joined f (q ∷ log) r a (inl e) i = among_left a (f q) (flat_map f log) (subst (λ (x : Record T). Among a (f x)) e i)
  among_joined f (q ∷ log) r a (inr h) i = among_right a (f q) (flat_map f log) (among_joined f log r a h i)

  pub begun_about : (log : List (Record T)) (n t : ℕ) (o : Op T) (rest : List (Record T)) → about n log ≡ Begin n t o ∷ rest → Among (n, t, o) (begins log)
  begun_about log n t o rest h =
      among_joined begin_of log (Begin n t o) (n, t, o) (about_log log n (Begin n t o) (subst (Among (Begin n t o)) (sym h) (inl refl))) (inl refl)

  pub effect_about : (log : List (Record T)) (n t : ℕ) (o : Op T) (rest : List (Record T)) → about n log ≡ Begin n t o ∷ Effect n ∷ rest → Among n (effects log)
  effect_about log n t o rest h =
      among_joined effect_of log (Effect n) n (about_log log n (Effect n) (subst (Among (Effect n)) (sym h) (inr (inl refl)))) (inl refl)

  pub about_effect : (log : List (Record T)) (n : ℕ) → Among n (effects log) → Among (Effect n) (about n log)
  about_effect log n h = log_about log (Effect n) (find log h)
    where
      find : (l : List (Record T)) → Among n (effects l) → Among (Effect n) l
      find [] h = h
      find (Begin m t o ∷ l) h = inr (find l h)
      find (Effect m ∷ l) (inl e) = inl (ap Effect e)
      find (Effect m ∷ l) (inr h) = inr (find l h)
      find (End m a ∷ l) h = inr (find l h)

  pub about_end : (log : List (Record T)) (n : ℕ) (a : Answer T) → Among (n, a) (ends log) → Among (End n a) (about n log)
  about_end log n a h = log_about log (End n a) (find log h)
    where
      find : (l : List (Record T)) → Among (n, a) (ends l) → Among (End n a) l
      find [] h = h
      find (Begin m t o ∷ l) h = inr (find l h)
      find (Effect m ∷ l) h = inr (find l h)
      find (End m b ∷ l) (inl e) = let number : n ≡ m = ap (λ x. x.0) e in let same : a ≡ b = ap (λ x. x.1) e in inl (cc)
      find (End m b ∷ l) (inr h) = inr (find l h)

-- A loop that plays calls, one call on: the calls of the events so far, and the events still to be written over.
module _ {E F : Type 0} (call_of : E → F) where
  pub calls_push : (events : List E) (calls : List F) (i : ℕ) (e : E) (x : F) → i < length calls → x ≡ get_or calls i x → call_of e ≡ x
      → map call_of events ≡ take i calls → map call_of (events ++ e ∷ []) ≡ take (i + 1) calls
  calls_push events calls i e x within read is so_far =
      map_push call_of events e ∙ ap (λ l. l ++ call_of e ∷ []) so_far ∙ ap (λ y. take i calls ++ y ∷ []) (is ∙ read) ∙ sym (take_more calls i x within)

  pub calls_more : (events : List E) (calls : List F) (i : ℕ) (e : E) (x : F) → i < length events → i < length calls → x ≡ get_or calls i x → call_of e ≡ x
      → map call_of (take i events) ≡ take i calls → map call_of (take (i + 1) (set events i e)) ≡ take (i + 1) calls
  calls_more events calls i e x in_events in_calls read is so_far =
      ap (map call_of) (take_more_set events i e in_events) ∙ calls_push (take i events) calls i e x in_calls read is so_far

pub rest_more : {E : Type 0} (events first : List E) (i : ℕ) (e : E) → drop i events ≡ drop i first → drop (i + 1) (set events i e) ≡ drop (i + 1) first
rest_more events first i e rest =
    drop-set-lt (i + 1) events i e (omega arith) ∙ sym (drop-drop 1 i events) ∙ ap (drop 1) rest ∙ drop-drop 1 i first
