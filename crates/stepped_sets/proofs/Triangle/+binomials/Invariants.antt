use Rattle.stepped_sets.proofs.Triangle.+binomials.Given as goal

abbrev pub decreases-binomials : goal.decreases-binomials
decreases-binomials l = l.n
