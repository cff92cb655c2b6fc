use mathlib.Core.Path.{sym}
use Rattle.listing.proofs.Pens.{and_then, same_text, no_digits}
use Rattle.listing.proofs.Writing.{one_digit, last_digit}
use Rattle.listing.proofs.Pen+u8.+digits.Goals as goal

pub returns-then-k-eq0 : goal.returns-then-k-eq0
returns-then-k-eq0 t c = no_digits c.args.k c.args.n c.if-k-eq0.true

pub returns-then-n-lt10 : goal.returns-then-n-lt10
returns-then-n-lt10 t c = same_text (sym (one_digit c.args.k c.args.n c.if-k-eq0.false c.if-n-lt10.true)) c.put.ensures

pub returns : goal.returns
returns t c = same_text (sym (last_digit c.args.k c.args.n c.if-k-eq0.false c.if-n-lt10.false)) (and_then c.digits.ensures c.put-2.ensures)
