use Rattle.iox2_pubsub.proofs.port_factory.subscriber.PortFactorySubscriber.set_degradation_handler.Goals as goal

pub returns : goal.returns
returns g c = λ i. record {
  settings = record ((c.self.view_is i).settings)
      { degradation_handler = c.mark_of-self-inside.ensures i };
  box = c.box_in.ensures i;
}
