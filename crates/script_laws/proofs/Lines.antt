-- A line is read as a command just where it writes that command.
use Rattle.std.proofs.Common.{◌≡◌, ℕ, Bool, true, false, cond, ◌&&◌, eqb, leb, List, [], ◌∷◌, ◌++◌, length, get_or, Some, None, Ok, Err, codes, Option, Result, sym, refl, ap, ◌∙◌, subst, arith}
use Rattle.std.proofs.lemmas.Bool.{and_parts, and_from, le-leb, leb-true, eqb-true}
use Rattle.refusal.specs.declared.Refusal.{Refusal}
use Rattle.refusal.specs.declared.Refusal.TheVariants.{NotOfAForm, OutOfRange}
use Rattle.vector.specs.declared.Op.{Op}
use Rattle.vector.specs.declared.Op.TheVariants.{Push, Pop, Read, Write, Size}
use Rattle.script.proofs.Parts.{before_all}
use Rattle.script.specs.Fields.{before, after}
use Rattle.script.specs.Numbers.{number_of}
use Rattle.script.specs.Commands.{counted, op_alone, push, read, written, write, begun, stepped, op_with, told, from_word, from_thread, command_of}
use Rattle.script.specs.declared.commands.Command.{Command}
use Rattle.script.specs.declared.commands.Command.TheVariants.{Begin, Steps}
use Rattle.script_laws.specs.Grammar.{WritesNumber, WritesOp, WritesCommand, Iff, ReadsJust}
use Rattle.script_laws.proofs.Marks.{Lacks, before_mark, after_mark, cut}
use Rattle.script_laws.proofs.Numbers.{number_sound, number_complete, digits_lack}

refused : {A : Type 0} (f : Refusal) (x : A) → Err f ≡ Ok x → ⊥
refused f x e = let z : ◌≡◌ {A = ℕ} 0 1 = cc in omega arith

given : {A : Type 0} (x y : A) → ◌≡◌ {A = Result A Refusal} (Ok x) (Ok y) → x ≡ y
given x y e = cc

letter_alone : (word : List ℕ) → length word ≡ 1 → word ≡ get_or word 0 0 ∷ []
letter_alone [] e = absurd (omega arith)
letter_alone (l ∷ []) e = refl
letter_alone (l ∷ m ∷ ms) e = absurd (omega arith)

module _ {T : Type 0} (reads : List ℕ → Result T Refusal) (WritesItem : T → List ℕ → Type 0) (items : (text : List ℕ) (x : T) → Iff (reads text ≡ Ok x) (WritesItem x text)) where
  -- an operation's letter and what follows it, as read
  abbrev Operation : List ℕ → Result (Op T) Refusal → Type 0
  Operation text r = (op : Op T) → r ≡ Ok op → WritesOp WritesItem op text

  none : (text : List ℕ) (f : Refusal) → Operation text (Err f)
  none text f op e = absurd (refused f op e)

  one : (text : List ℕ) (op : Op T) → WritesOp WritesItem op text → Operation text (Ok op)
  one text op w oq e = subst (λ o. WritesOp WritesItem o text) (given op oq e) w

  pushes : (args : List ℕ) (r : Result T Refusal) → reads args ≡ r → Operation (codes "+ " ++ args) (push r)
  pushes args (Ok x) h = one _ (Push x) (args, refl, (items args x).0 h)
  pushes args (Err f) h = none _ f

  read_s : (args : List ℕ) (o : Option ℕ) → number_of args ≡ o → Operation (codes "r " ++ args) (read o)
  read_s args (Some n) h = one _ (Read n) (args, refl, number_sound n args h)
  read_s args None h = none _ NotOfAForm

  writes_at : (index item : List ℕ) (n : ℕ) (r : Result T Refusal) → WritesNumber n index → reads item ≡ r → Operation (codes "w " ++ (index ++ (codes " " ++ item))) (written n r)
  writes_at index item n (Ok x) w h = one _ (Write n x) (index, item, refl, w, (items item x).0 h)
  writes_at index item n (Err f) w h = none _ f

  writes : (args : List ℕ) (o : Option ℕ) (r : Option (List ℕ)) → number_of (before 32 args) ≡ o → after 32 args ≡ r → Operation (codes "w " ++ args) (write reads o r)
  writes args None r h k = none _ NotOfAForm
  writes args (Some n) None h k = none _ NotOfAForm
  writes args (Some n) (Some item) h k =
      subst (λ l. Operation (codes "w " ++ l) (written n (reads item))) (sym (cut 32 args item k)) (writes_at (before 32 args) item n (reads item) (number_sound n (before 32 args) h) refl)

  -- a test of the letter
  on_letter : (l k : ℕ) (rest : ℕ → List ℕ) (b : Bool) (x y : Result (Op T) Refusal) → eqb l k ≡ b → Operation (rest k) x → Operation (rest l) y → Operation (rest l) (cond b x y)
  on_letter l k rest true x y t f g = subst (λ m. Operation (rest m) x) (sym (eqb-true l k t)) f
  on_letter l k rest false x y t f g = g

  with_args : (l : ℕ) (args : List ℕ) → Operation (l ∷ 32 ∷ args) (op_with reads l args)
  with_args l args =
      on_letter l 43 (λ m. m ∷ 32 ∷ args) (eqb l 43) _ _ refl (pushes args (reads args) refl)
      (on_letter l 114 (λ m. m ∷ 32 ∷ args) (eqb l 114) _ _ refl (read_s args (number_of args) refl)
      (on_letter l 119 (λ m. m ∷ 32 ∷ args) (eqb l 119) _ _ refl (writes args (number_of (before 32 args)) (after 32 args) refl refl) (none _ NotOfAForm)))

  alone : (l : ℕ) → Operation (l ∷ []) (op_alone l)
  alone l =
      on_letter l 45 (λ m. m ∷ []) (eqb l 45) _ _ refl (one _ Pop refl)
      (on_letter l 115 (λ m. m ∷ []) (eqb l 115) _ _ refl (one _ Size refl) (none _ NotOfAForm))

  -- a line from its thread on
  abbrev Line : List ℕ → Result (Command T) Refusal → Type 0
  Line line r = (c : Command T) → r ≡ Ok c → WritesCommand WritesItem c line

  not_one : (line : List ℕ) (f : Refusal) → Line line (Err f)
  not_one line f c e = absurd (refused f c e)

  is_one : (line : List ℕ) (c : Command T) → WritesCommand WritesItem c line → Line line (Ok c)
  is_one line c w d e = subst (λ x. WritesCommand WritesItem x line) (given c d e) w

  module _ (t : ℕ) (thread : List ℕ) (number : WritesNumber t thread) where
    begins : (rest : List ℕ) (r : Result (Op T) Refusal) → Operation rest r → Line (thread ++ 32 ∷ rest) (begun t r)
    begins rest (Ok op) h = is_one _ (Begin t op) (thread, rest, refl, number, h op refl)
    begins rest (Err f) h = not_one _ f

    counts_if : (args : List ℕ) (n : ℕ) (b : Bool) → (leb 1 n && leb n 999) ≡ b → WritesNumber n args → Line (thread ++ 32 ∷ 46 ∷ 32 ∷ args) (stepped t (cond b (Ok n) (Err OutOfRange)))
    counts_if args n true h w =
        let p = and_parts (leb 1 n) (leb n 999) h in
        is_one _ (Steps t n) (thread, args, refl, number, w, leb-true 1 n p.0, leb-true n 999 p.1)
    counts_if args n false h w = not_one _ OutOfRange

    counts : (args : List ℕ) (o : Option ℕ) → number_of args ≡ o → Line (thread ++ 32 ∷ 46 ∷ 32 ∷ args) (stepped t (counted o))
    counts args (Some n) h = counts_if args n _ refl (number_sound n args h)
    counts args None h = not_one _ NotOfAForm

    on_dot : (l : ℕ) (args : List ℕ) (b : Bool) → eqb l 46 ≡ b → Line (thread ++ 32 ∷ l ∷ 32 ∷ args) (cond b (stepped t (counted (number_of args))) (begun t (op_with reads l args)))
    on_dot l args true h = subst (λ m. Line (thread ++ 32 ∷ m ∷ 32 ∷ args) (stepped t (counted (number_of args)))) (sym (eqb-true l 46 h)) (counts args (number_of args) refl)
    on_dot l args false h = begins (l ∷ 32 ∷ args) (op_with reads l args) (with_args l args)

    tells : (rest : List ℕ) (l : ℕ) (r : Option (List ℕ)) → before 32 rest ≡ l ∷ [] → after 32 rest ≡ r → Line (thread ++ 32 ∷ rest) (told reads t l r)
    tells rest l None w a = subst (λ x. Line (thread ++ 32 ∷ x) (told reads t l None)) (sym w ∙ before_all 32 rest a) (begins (l ∷ []) (op_alone l) (alone l))
    tells rest l (Some args) w a =
        let is : l ∷ 32 ∷ args ≡ rest = sym (cut 32 rest args a ∙ ap (λ x. x ++ 32 ∷ args) w) in
        subst (λ x. Line (thread ++ 32 ∷ x) (told reads t l (Some args))) is (on_dot l args (eqb l 46) refl)

    word_if : (rest : List ℕ) (b : Bool) → eqb (length (before 32 rest)) 1 ≡ b → Line (thread ++ 32 ∷ rest) (cond b (told reads t (get_or (before 32 rest) 0 0) (after 32 rest)) (Err NotOfAForm))
    word_if rest true h = tells rest (get_or (before 32 rest) 0 0) (after 32 rest) (letter_alone (before 32 rest) (eqb-true _ 1 h)) refl
    word_if rest false h = not_one _ NotOfAForm

  threads : (line : List ℕ) (o : Option ℕ) (r : Option (List ℕ)) → number_of (before 32 line) ≡ o → after 32 line ≡ r → Line line (from_thread reads o r)
  threads line None r n a = not_one line NotOfAForm
  threads line (Some t) None n a = not_one line NotOfAForm
  threads line (Some t) (Some rest) n a =
      subst (λ l. Line l (from_word reads t (before 32 rest) (after 32 rest))) (sym (cut 32 line rest a)) (word_if t (before 32 line) (number_sound t (before 32 line) n) rest _ refl)

  -- what writes a command is read as it
  thread_first : (t : ℕ) (thread rest : List ℕ) → WritesNumber t thread → command_of reads (thread ++ 32 ∷ rest) ≡ from_word reads t (before 32 rest) (after 32 rest)
  thread_first t thread rest w =
      let l : Lacks 32 thread = digits_lack 32 thread (omega arith) w.digits in
      rw (before_mark 32 thread rest l, after_mark 32 thread rest l, number_complete t thread w)

  operation_read : (t : ℕ) (op : Op T) (rest : List ℕ) → WritesOp WritesItem op rest → from_word reads t (before 32 rest) (after 32 rest) ≡ Ok (Begin t op)
  operation_read t (Push x) rest w = ap (λ l. from_word reads t (before 32 l) (after 32 l)) w.1 ∙ rw ((items w.0 x).1 w.2)
  operation_read t Pop rest w = ap (λ l. from_word reads t (before 32 l) (after 32 l)) w
  operation_read t (Read n) rest w = ap (λ l. from_word reads t (before 32 l) (after 32 l)) w.1 ∙ rw (number_complete n w.0 w.2)
  operation_read t (Write n x) rest w =
      let l : Lacks 32 w.0 = digits_lack 32 w.0 (omega arith) w.3.digits in
      ap (λ m. from_word reads t (before 32 m) (after 32 m)) w.2 ∙ rw (before_mark 32 w.0 w.1 l, after_mark 32 w.0 w.1 l, number_complete n w.0 w.3, (items w.1 x).1 w.4)
  operation_read t Size rest w = ap (λ l. from_word reads t (before 32 l) (after 32 l)) w

  line_read : (c : Command T) (line : List ℕ) → WritesCommand WritesItem c line → command_of reads line ≡ Ok c
  line_read (Begin t op) line w = ap (command_of reads) w.2 ∙ thread_first t w.0 w.1 w.3 ∙ operation_read t op w.1 w.4
  line_read (Steps t n) line w =
      let few = and_from _ _ (le-leb 1 n w.5) (le-leb n 999 w.6) in
      ap (command_of reads) w.2 ∙ thread_first t w.0 (46 ∷ 32 ∷ w.1) w.3 ∙ rw (number_complete n w.1 w.4, few)

  pub reads_just : ReadsJust reads WritesItem
  reads_just line c = (threads line (number_of (before 32 line)) (after 32 line) refl refl c, line_read c line)
