-- The padding, and behind it the digits.
use Rattle.std.proofs.Common.{sym, ◌∙◌}
use Rattle.say.proofs.RenderingLaws.{padded-put, same-decimal}
use Rattle.say.proofs.Page.put_padded.Goals as goal

pub returns-clause-page : goal.returns-clause-page
returns-clause-page c =
    let is = c.as_bytes-text.ensures.value ∙ c.format.ensures.text ∙ sym (same-decimal c.args.n c.ranges.n.fits) in
    padded-put c.args.n c.args.width c.args.pad is c.saturating_sub.ensures c.put_times.ensures.page c.put_text.ensures.page
