use Rattle.std.proofs.Common.{inr}
use Rattle.iox2_pubsub.proofs.subscriber.Subscriber.close_channel.Goals as goal

pub returns-clause-leaves : goal.returns-clause-leaves
returns-clause-leaves g c =
    let left = c.change_channel.ensures.leaves in
    record {
      stays = left.stays;
      waits = left.waits;
      up_to_date = left.up_to_date;
      connections = λ publisher other apart. left.connections publisher other (inr apart);
      room = left.room;
      loans_left = left.loans_left;
      borrows_left = left.borrows_left;
    }
