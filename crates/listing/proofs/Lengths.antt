-- How long the line of a record is.
use Rattle.std.proofs.Common.{◌≡◌, ℕ, ◌+◌, List, ◌++◌, length, codes, decimal, arith, length-append}
use Rattle.std.specs.Fmt.{signed_decimal}
use Rattle.items.specs.declared.point.Point.{Point}
use Rattle.vector.specs.declared.Op.{Op}
use Rattle.vector.specs.declared.Op.TheVariants.{Write}
use Rattle.vector.specs.declared.Answer.{Answer}
use Rattle.stepping.specs.declared.Record.TheVariants.{Begin, Effect, End}
use Rattle.listing.specs.Texts.{point_text}
use Rattle.listing.specs.Listings.{op_text, answer_text, record_text, line_of}

module _ {T : Type 0} (text : T → List ℕ) where
  pub write_length : (i : ℕ) (x : T) → length (op_text text (Write i x)) ≡ 3 + length (decimal i) + length (text x)
  write_length i x = omega (arith, length-append (decimal i) (codes " " ++ text x))

  pub begin_length : (n t : ℕ) (op : Op T) → length (line_of text (Begin n t op)) ≡ 9 + length (decimal n) + length (decimal t) + length (op_text text op)
  begin_length n t op =
      omega (
        arith,
        length-append (record_text text (Begin n t op)) (codes "\n"),
        length-append (decimal n) (codes " " ++ (decimal t ++ (codes " " ++ op_text text op))),
        length-append (decimal t) (codes " " ++ op_text text op),
      )

  pub effect_length : (n : ℕ) → length (line_of text (Effect n)) ≡ 8 + length (decimal n)
  effect_length n = omega (arith, length-append (record_text text (Effect n)) (codes "\n"))

  pub end_length : (n : ℕ) (a : Answer T) → length (line_of text (End n a)) ≡ 6 + length (decimal n) + length (answer_text text a)
  end_length n a = omega (arith, length-append (record_text text (End n a)) (codes "\n"), length-append (decimal n) (codes " " ++ answer_text text a))

pub point_length : (p : Point) → length (point_text p) ≡ length (signed_decimal p.x) + length (signed_decimal p.y) + length (signed_decimal p.z) + 2
point_length p =
    omega (
      arith,
      length-append (signed_decimal p.x) (codes "," ++ (signed_decimal p.y ++ (codes "," ++ signed_decimal p.z))),
      length-append (signed_decimal p.y) (codes "," ++ signed_decimal p.z),
    )
