use Rattle.rbc_test_levels.proofs.tests.metres.+least_loss.Given as goal

abbrev pub decreases-least_loss : goal.decreases-least_loss
decreases-least_loss g l = l.steps
