use Rattle.iox2_pubsub.proofs.port_factory.publisher.PortFactoryPublisher.set_degradation_handler.Goals as goal

pub returns : goal.returns
returns g c = λ i. record (c.self.view_is i) {
  settings = record ((c.self.view_is i).settings)
      { degradation_handler = c.mark_of-self-inside.ensures i };
  degradation_box = c.box_in.ensures i;
}
