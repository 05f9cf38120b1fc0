use Rattle.iox2_machine.proofs.ids.UniqueNodeId.value.Goals as goal

pub returns : goal.returns
returns c = c.self.view_is
