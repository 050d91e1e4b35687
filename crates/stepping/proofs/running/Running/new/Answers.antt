-- A bench just made has an empty history.
use Rattle.std.proofs.Common.{rules}
use Rattle.stepping.proofs.History.{led_first}
use Rattle.stepping.proofs.running.Running.new.Goals as goal

pub returns-clause-led : goal.returns-clause-led
returns-clause-led g c = led_first _ _ _ _ (search rules)
