-- G3 freezes the cell of a pop. The pop is not done, since then its cell were frozen or emptied by itself; so the word is put
-- early, while the pop is pending, or late, when it is final, and then it means the plain value.
use Rattle.std.proofs.Common.{◌≡◌, ℕ, true, false, ◌⊎◌, refl, inl, inr}
use Rattle.std.proofs.lemmas.Bool.{cases_Bool}
use Rattle.linearization.specs.Invariant.{Facts}
use Rattle.linearization.specs.Knowledge.{Put, unput, early, late, Puts, WasPut, is_done, Replaceable}
use Rattle.linearization.specs.Meaning.{size_now}
use Rattle.descriptor_steps.specs.Shared.{Cell, empty, frozen, Status, pending, done, final, Shared, upd, set_cell, held, is_pop, position, value_in}
use Rattle.linearization.proofs.Consequences.{SameMeaning, replaceable_full, replaceable_final, done_cell}
use Rattle.linearization.proofs.Follows.{Follows}
use Rattle.linearization.proofs.Replace.{NewPut, replace_size, replace_facts, replace_follows, replace_rows}
use Rattle.linearization.proofs.Stable.{not_both}
use Rattle.linearization.proofs.Tests.{no_way, upd_same, at_upd}
use Rattle.linearization.proofs.Values.{values_cong}

-- one word more is put
pub put_now : Puts → ℕ → ℕ → Put → Puts
put_now put c n v = upd put c (upd (put c) n v)

pub put_there : (put : Puts) (c n : ℕ) (v : Put) → put_now put c n v c n ≡ v
unfolding put_now
put_there put c n v = let a = upd_same put c (upd (put c) n v) in let b = upd_same (put c) n v in cc

pub put_cases : (put : Puts) (c n : ℕ) (v : Put) (d j : ℕ) → (put_now put c n v d j ≡ put d j) ⊎ ((d ≡ c) × (j ≡ n) × (put_now put c n v d j ≡ v))
unfolding put_now
put_cases put c n v d j =
    elim (at_upd put c (upd (put c) n v) d) [
      | inl e ↦ elim (at_upd (put c) n v j) [ inl x ↦ inr (e.0, x.0, cc) | inr x ↦ inl (cc) ]
      | inr e ↦ inl (cc)
    ]

-- put early while the pop is pending, late when it is final
abbrev pub put_at : Status → ℕ → Put
put_at pending a = early a
put_at (done b) a = late a
put_at (final b) a = late a

module _ {s : Shared} {put : Puts} (g : Facts s put) (n c : ℕ) (w : Cell) (of_pop : is_pop (s.plan c) ≡ true) (not_yet : put c n ≡ unput) (o : Replaceable s w) (is_w : s.cell (position (s.plan c)) ≡ w) where
  abbrev pub frozen_word : Cell
  frozen_word = frozen (value_in w) c n

  abbrev pub frozen_put : Puts
  frozen_put = put_now put c n (put_at (s.status c) (value_in w))

  -- the pop is pending or final
  not_done : is_done (s.status c) ≡ false
  not_done = elim (cases_Bool (is_done (s.status c))) [ inl e ↦ clash e (done_cell g c e) | inr e ↦ e ]
    where
      clash : is_done (s.status c) ≡ true → (j : ℕ) × (put c j ≡ early (held (s.status c))) × ((s.cell (position (s.plan c)) ≡ frozen (held (s.status c)) c j) ⊎ (s.cell (position (s.plan c)) ≡ empty c)) → is_done (s.status c) ≡ false
      clash e d =
          let f = replaceable_full s w o in
          elim d.2 [ inl x ↦ let z = replaceable_final s w o (held (s.status c)) c d.0 (cc) in no_way (not_both (s.status c) z e) | inr x ↦ no_way (cc) ]

  grown : (d j : ℕ) → (frozen_put d j ≡ put d j) ⊎ ((j ≡ n) × (put d j ≡ unput) × NewPut s frozen_put (position (s.plan c)) frozen_word d j)
  grown d j = elim (put_cases put c n (put_at (s.status c) (value_in w)) d j) [ inl e ↦ inl e | inr e ↦ inr (e.1, cc, fresh d j e.0 e.1 e.2) ]
    where
      fresh : (d j : ℕ) → d ≡ c → j ≡ n → frozen_put d j ≡ put_at (s.status c) (value_in w) → NewPut s frozen_put (position (s.plan c)) frozen_word d j
      fresh d j x y z = go (s.status c) refl
        where
          go : (v : Status) → s.status c ≡ v → NewPut s frozen_put (position (s.plan c)) frozen_word d j
          go pending u = inl (value_in w, cc, cc, cc, cc, cc)
          go (done b) u = let k = not_done in no_way (cc)
          go (final b) u = inr (value_in w, cc, cc, cc)

  new_word : (b d j : ℕ) → frozen_word ≡ frozen b d j → (put d j ≡ unput) × (is_pop (s.plan d) ≡ true) × (position (s.plan d) ≡ position (s.plan c)) × WasPut frozen_put d j b
  new_word b d j e = go (s.status c) refl
    where
      go : (v : Status) → s.status c ≡ v → (put d j ≡ unput) × (is_pop (s.plan d) ≡ true) × (position (s.plan d) ≡ position (s.plan c)) × WasPut frozen_put d j b
      go pending u = let z = put_there put c n (put_at (s.status c) (value_in w)) in (cc, cc, cc, inl (cc))
      go (done b) u = let k = not_done in no_way (cc)
      go (final b) u = let z = put_there put c n (put_at (s.status c) (value_in w)) in (cc, cc, cc, inr (cc))

  pub freeze_facts : Facts (set_cell s (position (s.plan c)) frozen_word) frozen_put
  freeze_facts = replace_facts g n (position (s.plan c)) w frozen_word frozen_put is_w o refl grown new_word

  pub freeze_follows : Follows n s put (set_cell s (position (s.plan c)) frozen_word) frozen_put
  freeze_follows = replace_follows g n (position (s.plan c)) w frozen_word frozen_put is_w o refl grown new_word

  pub freeze_same : SameMeaning s (set_cell s (position (s.plan c)) frozen_word)
  freeze_same = (
    replace_rows g n (position (s.plan c)) w frozen_word frozen_put is_w o refl grown new_word,
    let z = replace_size g n (position (s.plan c)) w frozen_word frozen_put is_w o refl grown new_word in
        let y = values_cong (upd s.cell (position (s.plan c)) frozen_word) s.cell (size_now s) (λ k l. elim (at_upd s.cell (position (s.plan c)) frozen_word k) [ inl e ↦ cc | inr e ↦ cc ]) in
        cc,
  )

  pub freeze_put : WasPut frozen_put c n (value_in w)
  freeze_put = (new_word (value_in w) c n refl).3
