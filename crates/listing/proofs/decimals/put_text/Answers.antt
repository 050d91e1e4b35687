use Rattle.std.proofs.Common.{◌≡◌, arith, rules}
use Rattle.listing.proofs.Putting.{puts_part}
use Rattle.listing.proofs.decimals.put_text.Goals as goal

pub returns : goal.returns
returns c =
    let copied : c.copy_from_slice.new.self ≡ c.args.text.now = search rules in
    puts_part c.args.text.now c.args.at _ c.args.output.now c.copy_from_slice.new.self copied (omega arith) c.requires
