-- The forms of operation lines and step lines.
use Rattle.std.specs.Prelude.{ℕ, cond, ◌&&◌, List, length, Some, None, Ok, Err, Option, Result, ◌==◌, nat_le, slice_index}
use Rattle.vector.specs.declared.Op.{Op}
use Rattle.vector.specs.declared.Op.TheVariants.{Push, Pop, Read, Write, Size}
use Rattle.script.specs.Fields.{letter, before, after}
use Rattle.script.specs.Numbers.{number_of}
use Rattle.script.specs.declared.commands.Command.{Command}
use Rattle.script.specs.declared.commands.Command.TheVariants.{Begin, Steps}
use Rattle.refusal.specs.declared.Refusal.{Refusal}
use Rattle.refusal.specs.declared.Refusal.TheVariants.{NotOfAForm, OutOfRange}

-- `1 . 3`: from 1 to 999 steps
abbrev pub counted : Option ℕ → Result ℕ Refusal
counted None = Err NotOfAForm
counted (Some n) = cond (nat_le 1 n && nat_le n 999) (Ok n) (Err OutOfRange)

abbrev pub count_of : List ℕ → Result ℕ Refusal
count_of text = counted (number_of text)

-- `1 -` and `1 s`
abbrev pub op_alone : {T : Type 0} → ℕ → Result (Op T) Refusal
op_alone l = cond (l == (letter "-")) (Ok Pop) (cond (l == (letter "s")) (Ok Size) (Err NotOfAForm))

module _ {T : Type 0} where
  abbrev pub push : Result T Refusal → Result (Op T) Refusal
  push (Ok item) = Ok (Push item)
  push (Err f) = Err f

  abbrev pub read : Option ℕ → Result (Op T) Refusal
  read None = Err NotOfAForm
  read (Some index) = Ok (Read index)

  abbrev pub written : ℕ → Result T Refusal → Result (Op T) Refusal
  written index (Ok item) = Ok (Write index item)
  written index (Err f) = Err f

  abbrev pub begun : ℕ → Result (Op T) Refusal → Result (Command T) Refusal
  begun thread (Ok op) = Ok (Begin thread op)
  begun thread (Err f) = Err f

  abbrev pub stepped : ℕ → Result ℕ Refusal → Result (Command T) Refusal
  stepped thread (Ok n) = Ok (Steps thread n)
  stepped thread (Err f) = Err f

module _ {T : Type 0} (reads : List ℕ → Result T Refusal) where
  abbrev pub write : Option ℕ → Option (List ℕ) → Result (Op T) Refusal
  write None item = Err NotOfAForm
  write (Some index) None = Err NotOfAForm
  write (Some index) (Some item) = written index (reads item)

  -- `1 + 17`, `1 r 0` and `1 w 0 5`
  abbrev pub op_with : ℕ → List ℕ → Result (Op T) Refusal
  op_with l rest =
      cond (l == (letter "+")) (push (reads rest))
      (cond (l == (letter "r")) (read (number_of rest))
      (cond (l == (letter "w")) (write (number_of (before (letter " ") rest)) (after (letter " ") rest)) (Err NotOfAForm)))

  abbrev pub told : ℕ → ℕ → Option (List ℕ) → Result (Command T) Refusal
  told thread l None = begun thread (op_alone l)
  told thread l (Some rest) = cond (l == (letter ".")) (stepped thread (count_of rest)) (begun thread (op_with l rest))

  abbrev pub from_word : ℕ → List ℕ → Option (List ℕ) → Result (Command T) Refusal
  from_word thread word rest = cond (length word == 1) (told thread (slice_index word 0) rest) (Err NotOfAForm)

  abbrev pub from_thread : Option ℕ → Option (List ℕ) → Result (Command T) Refusal
  from_thread None rest = Err NotOfAForm
  from_thread (Some thread) None = Err NotOfAForm
  from_thread (Some thread) (Some rest) = from_word thread (before (letter " ") rest) (after (letter " ") rest)

  abbrev pub command_of : List ℕ → Result (Command T) Refusal
  command_of line = from_thread (number_of (before (letter " ") line)) (after (letter " ") line)
