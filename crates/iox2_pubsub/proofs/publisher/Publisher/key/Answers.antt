use Rattle.iox2_pubsub.proofs.publisher.Publisher.key.Goals as goal

pub returns : goal.returns
returns c = cc c.value.ensures
