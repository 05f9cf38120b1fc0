use Rattle.iox2_pubsub.proofs.subscriber.Subscriber.key.Goals as goal

pub returns : goal.returns
returns c = cc c.value.ensures
