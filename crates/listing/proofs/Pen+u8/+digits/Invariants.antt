use Rattle.listing.proofs.Pen+u8.+digits.Given as goal

abbrev pub decreases-digits : goal.decreases-digits
decreases-digits l = l.k
