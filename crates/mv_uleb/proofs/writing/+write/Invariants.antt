use Rattle.mv_uleb.proofs.writing.+write.Given as goal

abbrev pub decreases-write : goal.decreases-write
decreases-write l = l.n
