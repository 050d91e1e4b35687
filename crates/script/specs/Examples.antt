-- Examples of what scripts say, among them every corner of their forms.
use Rattle.std.specs.Prelude.{◌≡◌, ℕ, [], ◌∷◌, ◌++◌, ℤ, pos, negsuc, Some, None, Ok, Err, codes, Result}
use Rattle.refusal.specs.declared.Refusal.{Refusal}
use Rattle.refusal.specs.declared.Refusal.TheVariants.{NoHeaderLine, NotOfAForm, OutOfRange, BadCoordinate}
use Rattle.items.specs.declared.point.Point.{Point}
use Rattle.vector.specs.declared.Op.TheVariants.{Push, Pop, Read, Write, Size}
use Rattle.script.specs.Commands.{command_of}
use Rattle.script.specs.Faults.{at_line}
use Rattle.script.specs.Headers.{header_of}
use Rattle.script.specs.Items.{number_item, coordinate_of, point_item}
use Rattle.script.specs.Opening.{opened}
use Rattle.script.specs.declared.commands.Command.TheVariants.{Begin, Steps}
use Rattle.script.specs.declared.headers.ContainerChoice.{ContainerChoice}
use Rattle.script.specs.declared.headers.ContainerChoice.TheVariants.{Descriptor, Lock}
use Rattle.script.specs.declared.headers.MemoryChoice.{MemoryChoice}
use Rattle.script.specs.declared.headers.MemoryChoice.TheVariants.{Flat, Bucketed}
use Rattle.script.specs.declared.headers.KindChoice.{KindChoice}
use Rattle.script.specs.declared.headers.KindChoice.TheVariants.{Numbers, Points}
use Rattle.script.specs.declared.headers.Header.{Header}

-- items of the kind of numbers: a minus or none, one to ten digits, from -2^31 to 2^31 - 1
pub record NumberItems : Type 0 where
  pub zeros : number_item (codes "0000000017") ≡ Ok (pos 17)
  pub eleven : number_item (codes "00000000017") ≡ Err NotOfAForm
  pub minus_ten : number_item (codes "-0000000001") ≡ Ok (negsuc 0)
  pub minus_zero : number_item (codes "-0") ≡ Ok (pos 0)
  pub least : number_item (codes "-2147483648") ≡ Ok (negsuc 2147483647)
  pub below : number_item (codes "-2147483649") ≡ Err OutOfRange
  pub most : number_item (codes "2147483647") ≡ Ok (pos 2147483647)
  pub above : number_item (codes "2147483648") ≡ Err OutOfRange
  pub none : number_item [] ≡ Err NotOfAForm
  pub minus_alone : number_item (codes "-") ≡ Err NotOfAForm
  pub plus : number_item (codes "+5") ≡ Err NotOfAForm
  pub decimal : number_item (codes "1.5") ≡ Err NotOfAForm
  pub point : number_item (codes "1,2,3") ≡ Err NotOfAForm

-- one decimal or none, rounded to a whole number, halves away from zero
pub record Coordinates : Type 0 where
  pub half : coordinate_of (codes "1.5") ≡ Some (pos 2)
  pub minus_half : coordinate_of (codes "-1.5") ≡ Some (negsuc 1)
  pub below_half : coordinate_of (codes "511.4") ≡ Some (pos 511)
  pub at_half : coordinate_of (codes "511.5") ≡ Some (pos 512)
  pub to_zero : coordinate_of (codes "-0.4") ≡ Some (pos 0)
  pub from_zero : coordinate_of (codes "-0.5") ≡ Some (negsuc 0)
  pub no_whole : coordinate_of (codes ".5") ≡ None
  pub no_tenth : coordinate_of (codes "1.") ≡ None
  pub two_decimals : coordinate_of (codes "1.55") ≡ None
  pub ten_digits : coordinate_of (codes "0000000001.5") ≡ Some (pos 2)
  pub eleven_digits : coordinate_of (codes "00000000001.5") ≡ None

-- the coordinates of a point that was read
abbrev pub at_coordinates : Result Point Refusal → Result (ℤ × ℤ × ℤ) Refusal
at_coordinates (Ok p) = Ok (p.x, p.y, p.z)
at_coordinates (Err why) = Err why

-- points: rounded first, then ranged; their form comes before their range
pub record PointItems : Type 0 where
  pub rounded : at_coordinates (point_item (codes "511.4,-512.4,-1.5")) ≡ Ok (pos 511, negsuc 511, negsuc 1)
  pub past : point_item (codes "511.5,0,0") ≡ Err BadCoordinate
  pub past_below : point_item (codes "0,0,-512.5") ≡ Err BadCoordinate
  pub form_first : point_item (codes "512,0,x") ≡ Err NotOfAForm
  pub two : point_item (codes "1,2") ≡ Err NotOfAForm
  pub four : point_item (codes "1,2,3,4") ≡ Err NotOfAForm
  pub number : point_item (codes "5") ≡ Err NotOfAForm

-- lines after the header; threads, indices and counts have no minus, and are never wrapped
pub record Commands : Type 0 where
  pub push : command_of number_item (codes "1 + 17") ≡ Ok (Begin 1 (Push (pos 17)))
  pub pop : command_of number_item (codes "1 -") ≡ Ok (Begin 1 Pop)
  pub read : command_of number_item (codes "1 r 0") ≡ Ok (Begin 1 (Read 0))
  pub write : command_of number_item (codes "1 w 0 -5") ≡ Ok (Begin 1 (Write 0 (negsuc 4)))
  pub size : command_of number_item (codes "1 s") ≡ Ok (Begin 1 Size)
  pub steps : command_of number_item (codes "1 . 3") ≡ Ok (Steps 1 3)
  pub most_steps : command_of number_item (codes "1 . 999") ≡ Ok (Steps 1 999)
  pub no_steps : command_of number_item (codes "1 . 0") ≡ Err OutOfRange
  pub many_steps : command_of number_item (codes "1 . 1000") ≡ Err OutOfRange
  pub large_thread : command_of number_item (codes "4294967297 s") ≡ Ok (Begin 4294967297 Size)
  pub large_index : command_of number_item (codes "1 r 9999999999") ≡ Ok (Begin 1 (Read 9999999999))
  pub minus_thread : command_of number_item (codes "-1 s") ≡ Err NotOfAForm
  pub minus_index : command_of number_item (codes "1 r -1") ≡ Err NotOfAForm
  pub minus_count : command_of number_item (codes "1 . -3") ≡ Err NotOfAForm
  pub two_spaces : command_of number_item (codes "1  s") ≡ Err NotOfAForm
  pub space_first : command_of number_item (codes " 1 s") ≡ Err NotOfAForm
  pub space_last : command_of number_item (codes "1 s ") ≡ Err NotOfAForm
  pub space_alone : command_of number_item (codes " ") ≡ Err NotOfAForm
  pub return : command_of number_item (codes "1 s\r") ≡ Err NotOfAForm
  pub other_letter : command_of number_item (codes "1 p 3") ≡ Err NotOfAForm
  pub two_letters : command_of number_item (codes "1 ss") ≡ Err NotOfAForm
  pub header : command_of number_item (codes "dfn 2 2") ≡ Err NotOfAForm
  pub form_first : command_of number_item (codes "x + 2147483648") ≡ Err NotOfAForm
  pub range_next : command_of number_item (codes "1 + 2147483648") ≡ Err OutOfRange

abbrev pub headed_by : ContainerChoice → MemoryChoice → KindChoice → ℕ → ℕ → Header
headed_by c m k capacity threads = record { container = c; memory = m; kind = k; capacity = capacity; threads = threads }

-- the first line that is neither empty nor a comment
pub record HeaderLines : Type 0 where
  pub all_first : header_of (codes "dfn 2 2") ≡ Some (headed_by Descriptor Flat Numbers 2 2)
  pub all_second : header_of (codes "gbp 64 8") ≡ Some (headed_by Lock Bucketed Points 64 8)
  pub large : header_of (codes "gfn 9999999999 0") ≡ Some (headed_by Lock Flat Numbers 9999999999 0)
  pub exchanged : header_of (codes "fdn 2 2") ≡ None
  pub capital : header_of (codes "Dfn 2 2") ≡ None
  pub four_letters : header_of (codes "dfnn 2 2") ≡ None
  pub no_threads : header_of (codes "dfn 2") ≡ None
  pub one_more : header_of (codes "dfn 2 2 2") ≡ None
  pub minus : header_of (codes "dfn -2 2") ≡ None

-- whole scripts: 43 comes before the fault of a line, and every line counts
pub record Scripts : Type 0 where
  pub empty : opened [] ≡ Err (at_line 0 NoHeaderLine)
  pub comments : opened (codes "# a\n\n# b") ≡ Err (at_line 0 NoHeaderLine)
  pub odd_comment : opened (codes "#" ++ (200 ∷ codes "\n")) ≡ Err (at_line 0 NoHeaderLine)
  pub header_alone : opened (codes "dfn 2 2\n") ≡ Ok (1, headed_by Descriptor Flat Numbers 2 2, [])
  pub no_line_feed : opened (codes "dfn 2 2") ≡ Err (at_line 1 NotOfAForm)
  pub no_header : opened (codes "# a\n1 s\ndfn 2 2\n") ≡ Err (at_line 2 NotOfAForm)
  pub spaced_comment : opened (codes " # a\ndfn 2 2\n") ≡ Err (at_line 1 NotOfAForm)
  pub odd_before : opened (codes "#" ++ (200 ∷ codes "\ndfn 2 2\n")) ≡ Err (at_line 1 NotOfAForm)
  pub control_bytes : opened (codes "#\t\r\n\ndfn 2 2\n") ≡ Ok (3, headed_by Descriptor Flat Numbers 2 2, [])
  pub lines : opened (codes "dfn 2 2\n\n# a\n1 s\n# b") ≡ Ok (1, headed_by Descriptor Flat Numbers 2 2, (4, Ok (codes "1 s")) ∷ (5, Err NotOfAForm) ∷ [])

pub record Examples : Type 0 where
  pub number_items : NumberItems
  pub coordinates : Coordinates
  pub point_items : PointItems
  pub commands : Commands
  pub header_lines : HeaderLines
  pub scripts : Scripts
