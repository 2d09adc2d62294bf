-- `init_rest::init_rest` meets its contract: the stage of a legal plan's DLL2 is at most 15.
use Rattle.plan.proofs.Legal.{legal_stages}
use Rattle.init_rest.proofs.init_rest.Goals as goal

pub configure_dll2-requires-clause-dll2_bound : goal.configure_dll2-requires-clause-dll2_bound
configure_dll2-requires-clause-dll2_bound c = (legal_stages c.args.p c.requires.p_value.0).1
