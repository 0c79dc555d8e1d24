use Rattle.text.proofs.+decimal_len.Given as goal

abbrev pub decreases-decimal_len : goal.decreases-decimal_len
decreases-decimal_len l = l.n
