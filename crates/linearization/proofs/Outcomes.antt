-- What a step comes to: the thread moves on, serves an installed operation, ends one served before, or serves and ends its own at
-- once; in each case with the memory changed as others may see it.
use Rattle.std.proofs.Common.{◌≡◌, ℕ, true, false, ◌≢◌, ◌⊎◌, sym, refl, ◌∙◌, inl, inr, arith, Some, None, Option, is_some}
use Rattle.vector.specs.Meaning.{waiting, served}
use Rattle.vector.specs.declared.Answer.{Answer}
use Rattle.vector.specs.declared.Answer.TheVariants.{Position}
use Rattle.vector.specs.declared.Op.{Op}
use Rattle.linearization.specs.Invariant.{Facts}
use Rattle.linearization.specs.Knowledge.{Put, unput, early, late, Puts, Final, op_of, Helping, Knows, freezing, Thread}
use Rattle.descriptor_steps.specs.Machine.{Res, quiet, serving, go_on}
use Rattle.linearization.specs.Meaning.{meant_of}
use Rattle.descriptor_steps.specs.Shared.{Shared, is_final, is_push, is_pop, position}
use Rattle.linearization.specs.Names.{Then, own, to_L1, to_W1, Stage, L1, O1, W1, goto, end, Plan, pushing, popping}
use Rattle.linearization.proofs.Consequences.{SameMeaning, Plainly}
use Rattle.linearization.proofs.Follows.{Follows}
use Rattle.linearization.proofs.Stable.{final_stays}
use Rattle.linearization.proofs.Tests.{no_way}

-- a memory that a step of n may lead to: its facts hold, and it follows the one before
pub record Changed (n : ℕ) (s : Shared) (put : Puts) (s' : Shared) (put' : Puts) : Type 0 where
  pub facts : Facts s' put'
  pub follows : Follows n s put s' put'

-- what a step of n comes to, by what it gives
pub data Outcome (s : Shared) (put : Puts) (n : ℕ) (op : Op ℕ) : Res → Type 0 where
  -- it goes on, and the memory means what it meant
  moves : {s' : Shared} {put' : Puts} {x : Stage} → Changed n s put s' put' → SameMeaning s s' → Thread s' put' n op x → Outcome s put n op (quiet s' (goto x))
  -- it goes on, and the installed operation c has taken effect, as the plain vector takes it
  helps : {s' : Shared} {put' : Puts} {x : Stage} {c : ℕ} (a : Answer ℕ) → Changed n s put s' put'
      → is_some (s.plan c) ≡ true → is_final (s.status c) ≡ false
      → ((o : Op ℕ) → meant_of s c o ≡ waiting o c) → ((o : Op ℕ) → meant_of s' c o ≡ served o c a) → ((k : ℕ) (o : Op ℕ) → k ≢ c → meant_of s' k o ≡ meant_of s k o)
      → Plainly s (op_of (s.plan c)) s' a → Thread s' put' n op x → Outcome s put n op (serving s' c (goto x))
  -- it ends, served before, and the memory means what it meant
  ends : {s' : Shared} {put' : Puts} {a : Answer ℕ} → Changed n s put s' put' → SameMeaning s s' → meant_of s n op ≡ served op n a → Final s' n → Outcome s put n op (quiet s' (end a))
  -- it takes effect, as the plain vector takes it, and ends
  ends_now : {s' : Shared} {put' : Puts} {a : Answer ℕ} → Changed n s put s' put' → ((k : ℕ) (o : Op ℕ) → meant_of s' k o ≡ meant_of s k o) → s.plan n ≡ None → s'.plan n ≡ None
      → Plainly s op s' a → Outcome s put n op (serving s' n (end a))

pub same_follows : (n : ℕ) (s : Shared) (put : Puts) → Follows n s put s put
same_follows n s put =
    record {
      caps = refl;
      plans = λ k. inl refl;
      puts = λ d i. inl refl;
      stats = λ k. inl refl;
      cleared = λ d h u y. y;
      filled = λ d h u y. u y;
      settled = λ d h q. (q, λ i e y. y);
    }

pub same_same : (s : Shared) → SameMeaning s s
same_same s = (λ k o. refl, refl)

-- no word is put by an operation that is not installed
pub unput_new : {s : Shared} {put : Puts} → Facts s put → (c j : ℕ) → s.plan c ≡ None → put c j ≡ unput
unput_new {s} {put} g c j h = go (put c j) refl
  where
    go : (v : Put) → put c j ≡ v → put c j ≡ unput
    go unput e = e
    go (early a) e = let x = g.early_pop a c j e in no_way (cc)
    go (late a) e = let x = g.late_final a c j e in no_way (cc)

-- nothing is left that the thread froze for
abbrev pub Free : Shared → Puts → ℕ → Type 0
Free s put n = (c : ℕ) → (put c n ≡ unput) ⊎ Final s c

pub unchanged : {s : Shared} {put : Puts} → Facts s put → (n : ℕ) → Changed n s put s put
unchanged {s} {put} g n = record { facts = g; follows = same_follows n s put }

module _ {s : Shared} {put : Puts} (g : Facts s put) {n : ℕ} {op : Op ℕ} where
  pub free_from : (x : Stage) → Thread s put n op x → (freezing x ≡ 0) ⊎ Final s (freezing x) → Free s put n
  free_from x l h c =
      elim (l.past c) [
        | inl e ↦ inl e
        | inr e ↦ elim e [ inl y ↦ inr y | inr y ↦ elim h [ inl z ↦ inl (unput_new g c n (let q = g.zero_unplanned in cc)) | inr z ↦ inr (cc) ] ]
      ]

  pub free_thread : n ≢ 0 → Free s put n → (x : Stage) → Knows s put n op x → Thread s put n op x
  free_thread ne f x h = record { number = ne; past = λ c. elim (f c) [ inl e ↦ inl e | inr e ↦ inr (inl e) ]; here = h }

  -- on to a stage, with nothing changed
  pub stay : (x : Stage) → Thread s put n op x → (freezing x ≡ 0) ⊎ Final s (freezing x) → (y : Stage) → Knows s put n op y → Outcome s put n op (quiet s (goto y))
  stay x l f y h = moves (unchanged g n) (same_same s) (free_thread l.number (free_from x l f) y h)

  pub stay_with : (x : Stage) → Thread s put n op x → (y : Stage) → freezing x ≡ freezing y → Knows s put n op y → Outcome s put n op (quiet s (goto y))
  stay_with x l y e h =
      moves (unchanged g n) (same_same s)
      (record { number = l.number; past = λ c. elim (l.past c) [ inl z ↦ inl z | inr z ↦ elim z [ inl w ↦ inr (inl w) | inr w ↦ inr (inr (w ∙ e)) ] ]; here = h })

  -- an answer at this step, with nothing changed
  pub says : (a : Answer ℕ) → s.plan n ≡ None → Plainly s op s a → Outcome s put n op (serving s n (end a))
  says a u h = ends_now (unchanged g n) (λ k o. refl) u u h

  -- the end of an operation served before
  pub tells : (a : Answer ℕ) → meant_of s n op ≡ served op n a → Final s n → Outcome s put n op (quiet s (end a))
  tells a h f = ends (unchanged g n) (same_same s) h f

-- what the thread itself knows, after a change
module _ {s s' : Shared} {put : Puts} {n : ℕ} (f : Follows n s put s' put) where
  pub free_after : Free s put n → Free s' put n
  free_after h c = elim (h c) [ inl e ↦ inl e | inr e ↦ inr (final_stays f c e) ]

  pub helping_after : (op : Op ℕ) (c : ℕ) (r : Then) → s'.plan n ≡ s.plan n → Helping s n op c r → Helping s' n op c r
  helping_after op c own e h = (h.0, cc, cc)
  helping_after op c to_L1 e h = (cc, h.1)
  helping_after op c (to_W1 i x) e h = let q = f.caps in (cc, h.1, let k = h.2 in omega arith)

-- help is over: of a push that was served, or of a pop, and it is final
module _ {s s' : Shared} {put put' : Puts} {n : ℕ} (ch : Changed n s put s' put') (same : SameMeaning s s') (op : Op ℕ) (c : ℕ) (ne : n ≢ 0) (fr : Free s' put' n) (fi : Final s' c) (un : s'.plan n ≡ s.plan n) where
  thread : (x : Stage) → Knows s' put' n op x → Thread s' put' n op x
  thread = free_thread ch.facts {op = op} ne fr

  pub go_on_push : (r : Then) → Helping s n op c r → (p : Option Plan) → s.plan c ≡ p → is_push p ≡ true → ((o : Op ℕ) → meant_of s c o ≡ served o c (Position (position p))) → Outcome s put n op (quiet s' (go_on p r))
  go_on_push own b None e h m = no_way (sym h)
  go_on_push own b (Some (popping q)) e h m = no_way (sym h)
  go_on_push own b (Some (pushing q x d)) e h m = let k = b.0 in ends ch same (let z = m op in cc) (cc)
  go_on_push to_L1 b p e h m = moves ch same (thread L1 (cc, b.1))
  go_on_push (to_W1 i x) b p e h m = moves ch same (thread (W1 i x) (cc, b.1, let q = ch.follows.caps in let k = b.2 in omega arith))

  pub go_on_pop : (r : Then) → Helping s n op c r → (p : Option Plan) → s.plan c ≡ p → is_pop p ≡ true → Outcome s put n op (quiet s' (go_on p r))
  go_on_pop own b None e h = no_way (sym h)
  go_on_pop own b (Some (pushing q x d)) e h = no_way (sym h)
  go_on_pop own b (Some (popping q)) e h = let k = b.0 in let z = b.1 in moves ch same (thread O1 (cc, cc, cc))
  go_on_pop to_L1 b p e h = moves ch same (thread L1 (cc, b.1))
  go_on_pop (to_W1 i x) b p e h = moves ch same (thread (W1 i x) (cc, b.1, let q = ch.follows.caps in let k = b.2 in omega arith))
