use Rattle.std.proofs.Common.{◌++◌, ap, decimal, arith, ◌∙◌}
use Rattle.bridge_report.proofs.Fronts.{digits_in_front, longer_in_front, room_in_front}
use Rattle.bridge_report.proofs.line_block.LineBlock.prepend_digits.Goals as goal

pub write_digits-self-inside-requires : goal.write_digits-self-inside-requires
write_digits-self-inside-requires c = (room_in_front _ _ _ _ c.self.told c.self.invariant.0 c.self.view_is c.requires c.ranges.number.fits, omega (arith, c.self.told, c.self.invariant.0))

pub invariant_of-self : goal.invariant_of-self
invariant_of-self c = (omega (arith, c.self.invariant.0, c.write_digits-self-inside.ensures.start), digits_in_front _ _ _ c.write_digits-self-inside.ensures.written c.ranges.number.fits c.self.invariant.1)

pub returns-clause-room : goal.returns-clause-room
returns-clause-room c = longer_in_front c.args.number _ c.args.self.now (c.write_digits-self-inside.ensures.written ∙ ap (λ l. decimal c.args.number ++ l) c.self.view_is) c.ranges.number.fits
