-- A listing determines its log: its lines are cut apart, each line gives its record but for the kind of an answer, and the begin of its
-- number gives that.
use Rattle.std.proofs.Common.{◌≡◌, ℕ, ◌^◌, ◌<◌, Bool, true, false, cond, eqb, ◌⊎◌, List, [], ◌∷◌, ◌++◌, length, get_or, ℤ, Some, None, Ok, Err, codes, decimal, Option, Result, sym, refl, ap, ◌∙◌, subst, ap₂, inl, inr, ⊎_elim, append_assoc, arith}
use Rattle.std.proofs.lemmas.Fmt.{decimal_injective}
use Rattle.std.proofs.lemmas.Bool.{cond-true, eq-eqb, false≢true, cases_cond}
use Rattle.std.specs.List.{slice_get, AllZip, AllByRecursion}
use Rattle.std.specs.Fmt.{signed_decimal}
use Rattle.refusal.specs.declared.Refusal.{Refusal}
use Rattle.refusal.specs.declared.Refusal.TheVariants.{NotOfAForm}
use Rattle.items.specs.declared.point.Point.{Point}
use Rattle.vector.specs.Plain.{last, popped, value_or_out}
use Rattle.vector.specs.declared.Op.{Op}
use Rattle.vector.specs.declared.Op.TheVariants.{Push, Pop, Read, Write, Size}
use Rattle.vector.specs.declared.Answer.{Answer}
use Rattle.vector.specs.declared.Answer.TheVariants.{Position, Value, Full, Empty, Out, Done, Length}
use Rattle.stepping.specs.Log.{Among}
use Rattle.stepping.specs.declared.Record.{Record}
use Rattle.stepping.specs.declared.Record.TheVariants.{Begin, Effect, End}
use Rattle.script.specs.Fields.{before, after}
use Rattle.script.specs.Numbers.{number_of}
use Rattle.script.specs.Commands.{command_of}
use Rattle.script.specs.declared.commands.Command.TheVariants.{Begin as Begins}
use Rattle.listing.specs.Listings.{op_text, answer_text, record_text, listing}
use Rattle.listing.specs.Texts.{point_text}
use Rattle.script_laws.specs.Laws.{Sayable, SayableAnswer, SayableRecord, Number, AnyPoint, CanAnswer, Answered, ListingDetermines}
use Rattle.script_laws.proofs.Marks.{Lacks, lacks_append, before_mark, after_mark, decimal_lacks, signed_lacks, number_decimal}
use Rattle.script_laws.proofs.Back.{read_back, small}

-- two texts cut at a mark that their fronts lack
same_front : (b : ℕ) (xs ys xs' ys' : List ℕ) → Lacks b xs → Lacks b xs' → xs ++ b ∷ ys ≡ xs' ++ b ∷ ys' → (xs ≡ xs') × (ys ≡ ys')
same_front b xs ys xs' ys' h h' e =
    let p : xs ≡ xs' = sym (before_mark b xs ys h) ∙ ap (before b) e ∙ before_mark b xs' ys' h' in
    let q : Some ys ≡ Some ys' = sym (after_mark b xs ys h) ∙ ap (after b) e ∙ after_mark b xs' ys' h' in
    (p, cc)

decimal_lf : (n : ℕ) → n < 10 ^ 10 → Lacks 10 (decimal n)
decimal_lf n h = decimal_lacks 10 n (omega arith) (omega arith)

decimal_space : (n : ℕ) → n < 10 ^ 10 → Lacks 32 (decimal n)
decimal_space n h = decimal_lacks 32 n (omega arith) (omega arith)

-- words that are written out
abbrev free : ℕ → List ℕ → Bool
free b [] = true
free b (x ∷ xs) = cond (eqb x b) false (free b xs)

free_lacks : (b : ℕ) (xs : List ℕ) → free b xs ≡ true → Lacks b xs
free_lacks b [] e = tt
free_lacks b (x ∷ xs) e = ((λ is. false≢true (sym (cond-true _ _ _ (eq-eqb x b is)) ∙ e)), free_lacks b xs (rest_free (eqb x b) e))
  where
    rest_free : (t : Bool) → cond t false (free b xs) ≡ true → free b xs ≡ true
    rest_free true f = absurd (false≢true f)
    rest_free false f = f

same_number : (n n' : ℕ) → n < 10 ^ 10 → n' < 10 ^ 10 → decimal n ≡ decimal n' → n ≡ n'
same_number n n' h h' e = decimal_injective n n' (omega arith) (omega arith) e

-- a word that is written out is no number
no_number : (n : ℕ) (word : List ℕ) → n < 10 ^ 10 → number_of word ≡ None → decimal n ≡ word → ⊥
no_number n word h none e =
    let p : Some n ≡ None = sym (number_decimal n h) ∙ ap number_of e ∙ none in
    let z : ◌≡◌ {A = ℕ} 0 1 = cc in
    omega arith

not_out : codes "done" ≡ codes "out" → ⊥
not_out e = let z = ap (λ l. get_or l 0 0) e in omega (arith, z)

-- the same record, but that an answer is known by its text
module _ {T : Type 0} (text : T → List ℕ) where
  abbrev Alike : Record T → Record T → Type 0
  Alike (Begin n t op) r = r ≡ Begin n t op
  Alike (Effect n) r = r ≡ Effect n
  Alike (End n a) r = (b : Answer T) × (r ≡ End n b) × (answer_text text a ≡ answer_text text b)

module _ {T : Type 0} (text : T → List ℕ) (reads : List ℕ → Result T Refusal) (Item : T → Type 0) (back : (x : T) → Item x → reads (text x) ≡ Ok x) (one_line : (x : T) → Item x → Lacks 10 (text x)) where
  op_lf : (op : Op T) → Sayable Item op → Lacks 10 (op_text text op)
  op_lf (Push x) s = lacks_append 10 (codes "+ ") (text x) (free_lacks 10 (codes "+ ") refl) (one_line x s)
  op_lf Pop s = free_lacks 10 (codes "-") refl
  op_lf (Read i) s = lacks_append 10 (codes "r ") (decimal i) (free_lacks 10 (codes "r ") refl) (decimal_lf i s)
  op_lf (Write i x) s =
      lacks_append 10 (codes "w ") _ (free_lacks 10 (codes "w ") refl)
      (lacks_append 10 (decimal i) _ (decimal_lf i s.0) (lacks_append 10 (codes " ") (text x) (free_lacks 10 (codes " ") refl) (one_line x s.1)))
  op_lf Size s = free_lacks 10 (codes "s") refl

  answer_lf : (a : Answer T) → SayableAnswer Item a → Lacks 10 (answer_text text a)
  answer_lf (Position p) s = decimal_lf p s
  answer_lf (Value x) s = one_line x s
  answer_lf Full s = free_lacks 10 (codes "full") refl
  answer_lf Empty s = free_lacks 10 (codes "empty") refl
  answer_lf Out s = free_lacks 10 (codes "out") refl
  answer_lf Done s = free_lacks 10 (codes "done") refl
  answer_lf (Length n) s = decimal_lf n s

  record_lf : (r : Record T) → SayableRecord Item r → Lacks 10 (record_text text r)
  record_lf (Begin n t op) s =
      lacks_append 10 (codes "begin ") _ (free_lacks 10 (codes "begin ") refl)
      (lacks_append 10 (decimal n) _ (decimal_lf n s.0) (lacks_append 10 (codes " ") _ (free_lacks 10 (codes " ") refl)
      (lacks_append 10 (decimal t) _ (decimal_lf t s.1) (lacks_append 10 (codes " ") _ (free_lacks 10 (codes " ") refl) (op_lf op s.2)))))
  record_lf (Effect n) s = lacks_append 10 (codes "effect ") (decimal n) (free_lacks 10 (codes "effect ") refl) (decimal_lf n s)
  record_lf (End n a) s =
      lacks_append 10 (codes "end ") _ (free_lacks 10 (codes "end ") refl)
      (lacks_append 10 (decimal n) _ (decimal_lf n s.0) (lacks_append 10 (codes " ") _ (free_lacks 10 (codes " ") refl) (answer_lf a s.1)))

  tail_of : (word xs ys : List ℕ) → free 32 word ≡ true → word ++ 32 ∷ xs ≡ word ++ 32 ∷ ys → xs ≡ ys
  tail_of word xs ys f e = (same_front 32 word xs word ys (free_lacks 32 word f) (free_lacks 32 word f) e).1

  alike : (r r' : Record T) → SayableRecord Item r → SayableRecord Item r' → record_text text r ≡ record_text text r' → Alike text r r'
  alike (Begin n t op) (Begin n' t' op') s s' e =
      let p = tail_of (codes "begin") _ _ refl e in
      let q = same_front 32 (decimal n) (decimal t ++ (codes " " ++ op_text text op)) (decimal n') (decimal t' ++ (codes " " ++ op_text text op')) (decimal_space n s.0) (decimal_space n' s'.0) p in
      let c : Ok (Begins t op) ≡ Ok (Begins t' op') = sym (read_back text reads Item back t op s.1 s.2) ∙ ap (command_of reads) q.1 ∙ read_back text reads Item back t' op' s'.1 s'.2 in
      let m : n ≡ n' = same_number n n' s.0 s'.0 q.0 in
      cc
  alike (Begin n t op) (Effect n') s s' e = let z = ap (λ l. get_or l 0 0) e in absurd (omega (arith, z))
  alike (Begin n t op) (End n' a') s s' e = let z = ap (λ l. get_or l 0 0) e in absurd (omega (arith, z))
  alike (Effect n) (Begin n' t' op') s s' e = let z = ap (λ l. get_or l 0 0) e in absurd (omega (arith, z))
  alike (Effect n) (Effect n') s s' e = let m : n ≡ n' = same_number n n' s s' (tail_of (codes "effect") _ _ refl e) in cc
  alike (Effect n) (End n' a') s s' e = let z = ap (λ l. get_or l 1 0) e in absurd (omega (arith, z))
  alike (End n a) (Begin n' t' op') s s' e = let z = ap (λ l. get_or l 0 0) e in absurd (omega (arith, z))
  alike (End n a) (Effect n') s s' e = let z = ap (λ l. get_or l 1 0) e in absurd (omega (arith, z))
  alike (End n a) (End n' a') s s' e =
      let p = tail_of (codes "end") _ _ refl e in
      let q = same_front 32 (decimal n) (answer_text text a) (decimal n') (answer_text text a') (decimal_space n s.0) (decimal_space n' s'.0) p in
      let m : n ≡ n' = same_number n n' s.0 s'.0 q.0 in
      (a', cc, q.1)

  first_line : (r : Record T) (rs : List (Record T)) → listing text (r ∷ rs) ≡ record_text text r ++ 10 ∷ listing text rs
  first_line r rs = append_assoc (record_text text r) (10 ∷ []) (listing text rs)

  some_line : (r : Record T) (rs : List (Record T)) → SayableRecord Item r → [] ≡ listing text (r ∷ rs) → ⊥
  some_line r rs s e =
      let q : None ≡ Some (listing text rs) = ap (after 10) (e ∙ first_line r rs) ∙ after_mark 10 (record_text text r) (listing text rs) (record_lf r s) in
      let z : ◌≡◌ {A = ℕ} 0 1 = cc in
      omega arith

  all_alike : (log other : List (Record T)) → AllByRecursion (SayableRecord Item) log → AllByRecursion (SayableRecord Item) other → listing text log ≡ listing text other → AllZip (Alike text) log other
  all_alike [] [] s s' e = tt
  all_alike [] (r ∷ rs) s s' e = some_line r rs s'.0 e
  all_alike (r ∷ rs) [] s s' e = some_line r rs s.0 (sym e)
  all_alike (r ∷ rs) (r' ∷ rs') s s' e =
      let q = same_front 10 (record_text text r) (listing text rs) (record_text text r') (listing text rs') (record_lf r s.0) (record_lf r' s'.0) (sym (first_line r rs) ∙ e ∙ first_line r' rs') in
      (alike r r' s.0 s'.0 q.0, all_alike rs rs' s.1 s'.1 q.1)

  -- an answer of one form, or a word
  abbrev Either : {X : Type 0} → (X → Answer T) → Answer T → Answer T → Type 0
  Either {X} form word a = ((x : X) × (a ≡ form x)) ⊎ (a ≡ word)

  same_either : {X : Type 0} (form : X → Answer T) (word : Answer T) → ((x y : X) → SayableAnswer Item (form x) → SayableAnswer Item (form y) → answer_text text (form x) ≡ answer_text text (form y) → form x ≡ form y) → ((x : X) → SayableAnswer Item (form x) → answer_text text (form x) ≡ answer_text text word → ⊥) → (a b : Answer T) → Either form word a → Either form word b → SayableAnswer Item a → SayableAnswer Item b → answer_text text a ≡ answer_text text b → a ≡ b
  same_either form word inj apart a b (inl p) (inl q) s t e = p.1 ∙ inj p.0 q.0 (subst (SayableAnswer Item) p.1 s) (subst (SayableAnswer Item) q.1 t) (sym (ap (answer_text text) p.1) ∙ e ∙ ap (answer_text text) q.1) ∙ sym q.1
  same_either form word inj apart a b (inl p) (inr q) s t e = absurd (apart p.0 (subst (SayableAnswer Item) p.1 s) (sym (ap (answer_text text) p.1) ∙ e ∙ ap (answer_text text) q))
  same_either form word inj apart a b (inr p) (inl q) s t e = absurd (apart q.0 (subst (SayableAnswer Item) q.1 t) (sym (ap (answer_text text) q.1) ∙ sym e ∙ ap (answer_text text) p))
  same_either form word inj apart a b (inr p) (inr q) s t e = p ∙ sym q

  popped_ways : (xs : List T) → Either Value Empty (popped xs)
  popped_ways [] = inr refl
  popped_ways (x ∷ xs) = inl (last x xs, refl)

  read_ways : (o : Option T) → Either Value Out (value_or_out o)
  read_ways (Some x) = inl (x, refl)
  read_ways None = inr refl

  same_item : (x y : T) → Item x → Item y → text x ≡ text y → Value x ≡ Value y
  same_item x y h k e = let p : Ok x ≡ Ok y = sym (back x h) ∙ ap reads e ∙ back y k in cc

  module _ (no_empty : reads (codes "empty") ≡ Err NotOfAForm) (no_out : reads (codes "out") ≡ Err NotOfAForm) where
    no_item : (x : T) (word : List ℕ) → Item x → reads word ≡ Err NotOfAForm → text x ≡ word → ⊥
    no_item x word h none e =
        let p : Ok x ≡ Err NotOfAForm = sym (back x h) ∙ ap reads e ∙ none in
        let z : ◌≡◌ {A = ℕ} 0 1 = cc in
        omega arith

    -- the operation and the text fix the answer
    same_answer : (op : Op T) (a b : Answer T) → CanAnswer op a → CanAnswer op b → SayableAnswer Item a → SayableAnswer Item b → answer_text text a ≡ answer_text text b → a ≡ b
    same_answer (Push v) a b p q s t e =
        let ways : (c : Answer T) → CanAnswer (Push v) c → Either Position Full c = λ c r. ⊎_elim (λ f. inl (length r.1, f)) (λ f. inr f) (cases_cond _ _ _ c r.2) in
        same_either Position Full (λ x y h k f. ap (λ (n : ℕ). Position n) (same_number x y h k f)) (λ x h f. no_number x (codes "full") h refl f) a b (ways a p) (ways b q) s t e
    same_answer Pop a b p q s t e =
        let ways : (c : Answer T) → CanAnswer Pop c → Either Value Empty c = λ c r. subst (Either Value Empty) (sym r.2) (popped_ways r.1) in
        same_either Value Empty same_item (λ x h f. no_item x (codes "empty") h no_empty f) a b (ways a p) (ways b q) s t e
    same_answer (Read i) a b p q s t e =
        let ways : (c : Answer T) → CanAnswer (Read i) c → Either Value Out c = λ c r. subst (Either Value Out) (sym r.2) (read_ways (slice_get r.1 i)) in
        same_either Value Out same_item (λ x h f. no_item x (codes "out") h no_out f) a b (ways a p) (ways b q) s t e
    same_answer (Write i v) a b p q s t e =
        let ways : (c : Answer T) → CanAnswer (Write i v) c → Either {X = Unit {0}} (λ _. Done) Out c = λ c r. ⊎_elim (λ f. inl (tt, f)) (λ f. inr f) (cases_cond _ _ _ c r.2) in
        same_either {X = Unit {0}} (λ _. Done) Out (λ x y h k f. refl) (λ x h f. not_out f) a b (ways a p) (ways b q) s t e
    same_answer Size a b p q s t e =
        let l : decimal (length p.1) ≡ decimal (length q.1) = sym (ap (answer_text text) p.2) ∙ e ∙ ap (answer_text text) q.2 in
        let n = same_number (length p.1) (length q.1) (subst (SayableAnswer Item) p.2 s) (subst (SayableAnswer Item) q.2 t) l in
        p.2 ∙ ap (λ (m : ℕ). Length m) n ∙ sym q.2

    -- a begin of the one log is a begin of the other
    begin_back : (rs ss : List (Record T)) → AllZip (Alike text) rs ss → (n t : ℕ) (op : Op T) → Among (Begin n t op) ss → Among (Begin n t op) rs
    begin_back [] [] h n t op m = m
    begin_back [] (s ∷ ss) h n t op m = absurd h
    begin_back (r ∷ rs) [] h n t op m = absurd h
    begin_back (Begin k u oq ∷ rs) (s ∷ ss) h n t op (inl e) = inl (e ∙ h.0)
    begin_back (Effect k ∷ rs) (s ∷ ss) h n t op (inl e) =
        let p : Begin n t op ≡ Effect k = e ∙ h.0 in
        let z : ◌≡◌ {A = ℕ} 0 1 = cc in
        absurd (omega arith)
    begin_back (End k a ∷ rs) (s ∷ ss) h n t op (inl e) =
        let p : Begin n t op ≡ End k h.0.0 = e ∙ h.0.1 in
        let z : ◌≡◌ {A = ℕ} 0 1 = cc in
        absurd (omega arith)
    begin_back (r ∷ rs) (s ∷ ss) h n t op (inr m) = inr (begin_back rs ss h.1 n t op m)

    module _ (log other : List (Record T)) (w : Answered log) (w' : Answered other) (begun : (n t : ℕ) (op : Op T) → Among (Begin n t op) other → Among (Begin n t op) log) where
      same_record : (r s : Record T) → Among r log → Among s other → SayableRecord Item r → SayableRecord Item s → Alike text r s → r ≡ s
      same_record (Begin n t op) s i j h k e = sym e
      same_record (Effect n) s i j h k e = sym e
      same_record (End n a) s i j h k e =
          let b = e.0 in
          let p = w.ends n a i in
          let q = w'.ends n b (subst (λ x. Among x other) e.1 j) in
          let one = w.one_begin n p.0 q.0 p.1 q.1 p.2 (begun n q.0 q.1 q.2) in
          let can : CanAnswer p.1 b = subst (λ o. CanAnswer o b) (sym one) q.3 in
          let same : a ≡ b = same_answer p.1 a b p.3 can h.1 (subst (SayableRecord Item) e.1 k).1 e.2 in
          ap (End n) same ∙ sym e.1

      same_part : (rs ss : List (Record T)) → ((x : Record T) → Among x rs → Among x log) → ((x : Record T) → Among x ss → Among x other) → AllByRecursion (SayableRecord Item) rs → AllByRecursion (SayableRecord Item) ss → AllZip (Alike text) rs ss → rs ≡ ss
      same_part [] [] i j h k e = refl
      same_part [] (s ∷ ss) i j h k e = absurd e
      same_part (r ∷ rs) [] i j h k e = absurd e
      same_part (r ∷ rs) (s ∷ ss) i j h k e =
          ap₂ (λ x xs. x ∷ xs) (same_record r s (i r (inl refl)) (j s (inl refl)) h.0 k.0 e.0) (same_part rs ss (λ x m. i x (inr m)) (λ x m. j x (inr m)) h.1 k.1 e.1)

    pub determines : ListingDetermines text Item
    determines log other s s' w w' e =
        let each = all_alike log other s s' e in
        same_part log other w w' (begin_back log other each) log other (λ x m. m) (λ x m. m) s s' each

pub number_line : (z : ℤ) → Number z → Lacks 10 (signed_decimal z)
number_line z h = signed_lacks 10 z (omega arith) (omega arith)

pub point_line : (p : Point) → AnyPoint p → Lacks 10 (point_text p)
point_line p _ =
    lacks_append 10 (signed_decimal p.x) _ (signed_lacks 10 p.x (omega arith) (small p.x p.ok.0)) (
      (λ e. omega (arith, e)),
      lacks_append 10 (signed_decimal p.y) _ (signed_lacks 10 p.y (omega arith) (small p.y p.ok.1))
          ((λ e. omega (arith, e)), signed_lacks 10 p.z (omega arith) (small p.z p.ok.2)),
    )
