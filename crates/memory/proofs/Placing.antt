-- The bucket that the leading zeros give is the one that the location lies in, for every location of 64 bits.
use Rattle.std.proofs.Common.{◌≡◌, ℕ, suc, ◌+◌, ◌-◌, ◌*◌, ◌/◌, ◌%◌, ◌^◌, ◌<◌, ◌≤◌, subst, mod-eq_of_lt, one-mul, pow-suc, arith}
use Rattle.std.proofs.lemmas.Nat.{leading_top}
use Rattle.memory.specs.Buckets.{Placed, start, bucket_of}

-- 2 ^ b is the highest power of 2 within at / 8 + 1, and a shift of 1 by b loses nothing
pub record Bounds (at b : ℕ) : Type 0 where
  pub low : 2 ^ b ≤ at / 8 + 1
  pub high : at / 8 + 1 < 2 * 2 ^ b
  pub fits : (1 * 2 ^ b) % 2 ^ 64 ≡ 2 ^ b

bounds_at : (at b : ℕ) → at < 2 ^ 64 → 2 ^ b ≤ at / 8 + 1 → at / 8 + 1 < 2 ^ suc b → Bounds at b
bounds_at at b h low high =
    record { low = low; high = omega (arith, pow-suc 2 b); fits = rw one-mul (mod-eq_of_lt (omega arith)) }

pub bounds : (at : ℕ) → at < 2 ^ 64 → Bounds at (bucket_of at)
bounds at h =
    let q : ℕ = at / 8 + 1 in
    let fits : q < 2 ^ 64 = omega arith in
    let t = leading_top 64 q (omega arith) fits in
    let same : t.0 ≡ bucket_of at = omega (arith, t.1) in
    subst (λ (b : ℕ). Bounds at b) same (bounds_at at t.0 h t.2 t.3)

pub placed : (at : ℕ) → at < 2 ^ 64 → Placed at (bucket_of at) (at - start (bucket_of at))
placed at h = let k = bounds at h in record { lies = omega (arith, k.low, k.high); inside = omega (arith, k.low, k.high) }
