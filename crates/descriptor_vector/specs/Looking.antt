-- What a stage that loads makes of what it found is what the machine makes of its memory: nothing else of the memory matters.
use Rattle.std.specs.Prelude.{◌≡◌, ℕ, zero, suc, Bool, true, false, cond, List, refl}
use Rattle.vector.specs.declared.Op.{Op}
use Rattle.descriptor_words.specs.declared.access.Found.{Found}
use Rattle.descriptor_steps.specs.declared.stage.Plans.{Plans}
use Rattle.descriptor_steps.specs.Shared.{Cell, empty, plain, frozen, Status, pending, done, final, Shared}
use Rattle.descriptor_steps.specs.Machine.{Res, on_L1, on_L2, on_R1, on_R2, on_W1, on_W2}
use Rattle.descriptor_steps.specs.Steps.{seen, moved}
use Rattle.descriptor_vector.specs.View.{view}

-- what is seen of a memory, and the memory
module _ (plans : Plans) (capacity : ℕ) (f : Found) (words : List ℕ) where
  abbrev s : Shared
  s = seen plans capacity f

  abbrev s' : Shared
  s' = view words plans capacity

  pub like_L1 : (op : Op ℕ) (c : ℕ) → on_L1 s op c ≡ on_L1 s' op c
  like_L1 op zero = refl
  like_L1 op (suc c) = refl

  pub like_L2 : (op : Op ℕ) (c : ℕ) (v : Status) → on_L2 s op c v ≡ on_L2 s' op c v
  like_L2 op c pending = refl
  like_L2 op c (done a) = refl
  like_L2 op c (final a) = refl

  pub like_R1 : (n i : ℕ) (w : Cell) → moved (on_R1 s n i w) ≡ moved (on_R1 s' n i w)
  like_R1 n i (empty k) = refl
  like_R1 n i (plain a) = refl
  like_R1 n i (frozen a k j) = refl

  pub like_R2 : (n i a k j : ℕ) (v : Status) → moved (on_R2 s n i a k j v) ≡ moved (on_R2 s' n i a k j v)
  like_R2 n i a k j pending = refl
  like_R2 n i a k j (done b) = refl
  like_R2 n i a k j (final b) = refl

  pub like_W1 : (n i x : ℕ) (w : Cell) → moved (on_W1 s n i x w) ≡ moved (on_W1 s' n i x w)
  like_W1 n i x (empty k) = refl
  like_W1 n i x (plain a) = refl
  like_W1 n i x (frozen a k j) = refl

  pub like_W2 : (n i x a k j : ℕ) (v : Status) → moved (on_W2 s n i x a k j v) ≡ moved (on_W2 s' n i x a k j v)
  like_W2 n i x a k j pending = refl
  like_W2 n i x a k j (done b) = refl
  like_W2 n i x a k j (final b) = refl

-- a load leaves the memory as it is
pub still_R1 : (s : Shared) (n i : ℕ) (w : Cell) → (on_R1 s n i w).sh ≡ s
still_R1 s n i (empty k) = refl
still_R1 s n i (plain a) = refl
still_R1 s n i (frozen a k j) = refl

pub still_R2 : (s : Shared) (n i a k j : ℕ) (v : Status) → (on_R2 s n i a k j v).sh ≡ s
still_R2 s n i a k j pending = refl
still_R2 s n i a k j (done b) = refl
still_R2 s n i a k j (final b) = refl

pub still_W1 : (s : Shared) (n i x : ℕ) (w : Cell) → (on_W1 s n i x w).sh ≡ s
still_W1 s n i x (empty k) = refl
still_W1 s n i x (plain a) = refl
still_W1 s n i x (frozen a k j) = refl

pub still_W2 : (s : Shared) (n i x a k j : ℕ) (v : Status) → (on_W2 s n i x a k j v).sh ≡ s
still_W2 s n i x a k j pending = refl
still_W2 s n i x a k j (done b) = refl
still_W2 s n i x a k j (final b) = refl

pub still_cond : (s : Shared) (b : Bool) (x y : Res) → x.sh ≡ s → y.sh ≡ s → (cond b x y).sh ≡ s
still_cond s true x y p q = p
still_cond s false x y p q = q

pub like_cond : (b : Bool) (x x' y y' : Res) → moved x ≡ moved x' → moved y ≡ moved y' → moved (cond b x y) ≡ moved (cond b x' y')
like_cond true x x' y y' p q = p
like_cond false x x' y y' p q = q
