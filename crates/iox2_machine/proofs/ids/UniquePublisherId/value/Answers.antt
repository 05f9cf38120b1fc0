use Rattle.iox2_machine.proofs.ids.UniquePublisherId.value.Goals as goal

pub returns : goal.returns
returns c = c.self.view_is
