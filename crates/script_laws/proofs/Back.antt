-- Lines are read back.
use Rattle.std.proofs.Common.{◌≡◌, ℕ, suc, ◌^◌, ◌<◌, false, List, ◌∷◌, ◌++◌, ℤ, pos, negsuc, Some, Ok, decimal, Result, sym, refl, ◌∙◌, arith}
use lib.Signed.{mag}
use Rattle.std.proofs.lemmas.Int.{ints}
use Rattle.std.proofs.lemmas.Bool.{ne_eqb, lt-ltb}
use Rattle.std.specs.Fmt.{signed_decimal}
use Rattle.items.specs.Coordinates.{Coordinate}
use Rattle.listing.specs.Texts.{point_text}
use Rattle.items.specs.declared.point.Point.{Point}
use Rattle.vector.specs.declared.Op.TheVariants.{Push, Pop, Read, Write, Size}
use Rattle.script.specs.Fields.{before, after}
use Rattle.script.specs.Numbers.{minus}
use Rattle.script.specs.Items.{number_item, magnitude_of, coordinate_of, point_item}
use Rattle.script.specs.Commands.{from_word, command_of}
use Rattle.refusal.specs.declared.Refusal.{Refusal}
use Rattle.script.proofs.Points.{point_from}
use Rattle.script_laws.specs.Laws.{Number, AnyPoint, ReadsBack}
use Rattle.script_laws.proofs.Marks.{Lacks, before_mark, after_mark, before_lacks, after_lacks, decimal_lacks, signed_lacks, first_lacks, number_decimal}

module _ {T : Type 0} (text : T → List ℕ) (reads : List ℕ → Result T Refusal) (Item : T → Type 0) (back : (x : T) → Item x → reads (text x) ≡ Ok x) where
  thread_first : (t : ℕ) (rest : List ℕ) → t < 10 ^ 10 → command_of reads (decimal t ++ 32 ∷ rest) ≡ from_word reads t (before 32 rest) (after 32 rest)
  thread_first t rest h =
      let l : Lacks 32 (decimal t) = decimal_lacks 32 t (omega arith) (omega arith) in
      rw (before_mark 32 (decimal t) rest l, after_mark 32 (decimal t) rest l, number_decimal t h)

  pub read_back : ReadsBack text reads Item
  read_back t (Push x) h s = thread_first t _ h ∙ rw (back x s)
  read_back t Pop h s = thread_first t _ h
  read_back t (Read i) h s = thread_first t _ h ∙ rw (number_decimal i s)
  read_back t (Write i x) h s =
      let l : Lacks 32 (decimal i) = decimal_lacks 32 i (omega arith) (omega arith) in
      thread_first t _ h ∙ rw (before_mark 32 (decimal i) (text x) l, after_mark 32 (decimal i) (text x) l, number_decimal i s.0, back x s.1)
  read_back t Size h s = thread_first t _ h

pub no_minus : (n : ℕ) → n < 2 ^ 64 → minus (decimal n) ≡ false
no_minus n h = ne_eqb _ 45 (first_lacks 45 (decimal n) (decimal_lacks 45 n (omega arith) h) (omega arith))

pub number_back : (z : ℤ) → Number z → number_item (signed_decimal z) ≡ Ok z
number_back (pos n) h =
    let w = lt-ltb n 2147483648 h in
    rw (no_minus n (omega arith), number_decimal n (omega arith), w)
number_back (negsuc n) h =
    let w = lt-ltb n 2147483648 h in
    rw (number_decimal (suc n) (omega arith), w)

magnitude_back : (n : ℕ) → n < 10 ^ 10 → magnitude_of (decimal n) ≡ Some n
magnitude_back n h =
    let l : Lacks 46 (decimal n) = decimal_lacks 46 n (omega arith) (omega arith) in
    rw (before_lacks 46 (decimal n) l, after_lacks 46 (decimal n) l, number_decimal n h)

coordinate_back : (z : ℤ) → Coordinate z → coordinate_of (signed_decimal z) ≡ Some z
coordinate_back (pos n) h = let s : n < 10 ^ 10 = omega (arith, ints) in rw (no_minus n (omega arith), magnitude_back n s)
coordinate_back (negsuc n) h = let s : suc n < 10 ^ 10 = omega (arith, ints) in rw (magnitude_back (suc n) s)

pub small : (z : ℤ) → Coordinate z → mag z < 2 ^ 63
small (pos n) h = omega (arith, ints)
small (negsuc n) h = omega (arith, ints)

pub point_back : (p : Point) → AnyPoint p → point_item (point_text p) ≡ Ok p
point_back p _ =
    let lx : Lacks 44 (signed_decimal p.x) = signed_lacks 44 p.x (omega arith) (small p.x p.ok.0) in
    let ly : Lacks 44 (signed_decimal p.y) = signed_lacks 44 p.y (omega arith) (small p.y p.ok.1) in
    let rest = signed_decimal p.y ++ 44 ∷ signed_decimal p.z in
    rw (
      before_mark 44 (signed_decimal p.x) rest lx,
      after_mark 44 (signed_decimal p.x) rest lx,
      before_mark 44 (signed_decimal p.y) (signed_decimal p.z) ly,
      after_mark 44 (signed_decimal p.y) (signed_decimal p.z) ly,
      coordinate_back p.x p.ok.0,
      coordinate_back p.y p.ok.1,
      coordinate_back p.z p.ok.2,
    ) (sym (point_from p.x p.y p.z (Ok p) (refl, refl, refl)))
