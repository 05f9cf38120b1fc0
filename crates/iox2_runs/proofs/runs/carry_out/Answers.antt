use Rattle.iox2_domain.specs.Shows.{Shows}
use Rattle.iox2_runs.specs.Carries.{entry_for}
use Rattle.std.proofs.Common.{map, refl}
use Rattle.iox2_machine.specs.machine.Environments.{fixed_handlers}
use Rattle.iox2_runs.proofs.TableCalls.{nothing_comes}
use Rattle.iox2_runs.proofs.LeavingSteps.{leaves-all}
use Rattle.iox2_runs.proofs.Turned.{carried, carried-here, taken-held}
use Rattle.iox2_runs.proofs.runs.carry_out.Goals as goal

pub returns-in-CreatePublisher : goal.returns-in-CreatePublisher
returns-in-CreatePublisher g c = rw c.in-CreatePublisher.is (carried-here c.args.table.now c.create_publisher.ensures)

pub returns-in-CreateSubscriber : goal.returns-in-CreateSubscriber
returns-in-CreateSubscriber g c =
    rw c.in-CreateSubscriber.is (carried-here c.args.table.now c.create_subscriber.ensures)

pub loan_uninit-requires : goal.loan_uninit-requires
loan_uninit-requires g c = taken-held c.take.ensures c.args.domain.now c.requires

pub returns-in-LoanUninit : goal.returns-in-LoanUninit
returns-in-LoanUninit g c = rw c.in-LoanUninit.is (carried c.take.ensures c.loan_uninit.ensures c.put_back.ensures)

pub loan-requires : goal.loan-requires
loan-requires g c = taken-held c.take-in-Loan.ensures c.args.domain.now c.requires

pub returns-in-Loan : goal.returns-in-Loan
returns-in-Loan g c = rw c.in-Loan.is (carried c.take-in-Loan.ensures c.loan.ensures c.put_back-in-Loan.ensures)

pub loan_slice-requires : goal.loan_slice-requires
loan_slice-requires g c = taken-held c.take-in-LoanSlice.ensures c.args.domain.now c.requires

pub returns-in-LoanSlice : goal.returns-in-LoanSlice
returns-in-LoanSlice g c =
    rw c.in-LoanSlice.is (carried c.take-in-LoanSlice.ensures c.loan_slice.ensures c.put_back-in-LoanSlice.ensures)

pub write_cell-requires : goal.write_cell-requires
write_cell-requires g c = taken-held c.take-in-WriteCell.ensures c.args.domain.now c.requires

pub returns-in-WriteCell : goal.returns-in-WriteCell
returns-in-WriteCell g c =
    rw c.in-WriteCell.is (carried c.take-in-WriteCell.ensures c.write_cell.ensures c.put_back-in-WriteCell.ensures)

pub write_all-requires : goal.write_all-requires
write_all-requires g c = taken-held c.take-in-WriteAll.ensures c.args.domain.now c.requires

pub returns-in-WriteAll : goal.returns-in-WriteAll
returns-in-WriteAll g c =
    rw c.in-WriteAll.is (carried c.take-in-WriteAll.ensures c.write_all.ensures c.put_back-in-WriteAll.ensures)

pub assume_init-requires : goal.assume_init-requires
assume_init-requires g c = taken-held c.take-in-AssumeInit.ensures c.args.domain.now c.requires

pub returns-in-AssumeInit : goal.returns-in-AssumeInit
returns-in-AssumeInit g c =
    rw c.in-AssumeInit.is (carried c.take-in-AssumeInit.ensures c.assume_init.ensures c.put_back-in-AssumeInit.ensures)

pub write_header-requires : goal.write_header-requires
write_header-requires g c = taken-held c.take-in-WriteHeader.ensures c.args.domain.now c.requires

pub returns-in-WriteHeader : goal.returns-in-WriteHeader
returns-in-WriteHeader g c = rw c.in-WriteHeader.is
    (carried c.take-in-WriteHeader.ensures c.write_header.ensures c.put_back-in-WriteHeader.ensures)

pub set_payload-requires : goal.set_payload-requires
set_payload-requires g c = taken-held c.take-in-SetPayload.ensures c.args.domain.now c.requires

pub returns-in-SetPayload : goal.returns-in-SetPayload
returns-in-SetPayload g c =
    rw c.in-SetPayload.is (carried c.take-in-SetPayload.ensures c.set_payload.ensures c.put_back-in-SetPayload.ensures)

pub send-requires : goal.send-requires
send-requires g c = taken-held c.take-in-Send.ensures c.args.domain.now c.requires

pub returns-in-Send : goal.returns-in-Send
returns-in-Send g c = rw c.in-Send.is (carried c.take-in-Send.ensures c.send.ensures c.put_back-in-Send.ensures)

pub send_to_connection-requires : goal.send_to_connection-requires
send_to_connection-requires g c = taken-held c.take-in-SendToConnection.ensures c.args.domain.now c.requires

pub returns-in-SendToConnection : goal.returns-in-SendToConnection
returns-in-SendToConnection g c = rw c.in-SendToConnection.is
    (carried c.take-in-SendToConnection.ensures c.send_to_connection.ensures c.put_back-in-SendToConnection.ensures)

pub send_copy-requires : goal.send_copy-requires
send_copy-requires g c = taken-held c.take-in-SendCopy.ensures c.args.domain.now c.requires

pub returns-in-SendCopy : goal.returns-in-SendCopy
returns-in-SendCopy g c =
    rw c.in-SendCopy.is (carried c.take-in-SendCopy.ensures c.send_copy.ensures c.put_back-in-SendCopy.ensures)

pub discard-requires : goal.discard-requires
discard-requires g c = taken-held c.take-in-Discard.ensures c.args.domain.now c.requires

pub returns-in-Discard : goal.returns-in-Discard
returns-in-Discard g c =
    rw c.in-Discard.is (carried c.take-in-Discard.ensures c.discard.ensures c.put_back-in-Discard.ensures)

pub retry-requires : goal.retry-requires
retry-requires g c = taken-held c.take-in-Retry.ensures c.args.domain.now c.requires

pub returns-in-Retry : goal.returns-in-Retry
returns-in-Retry g c = rw c.in-Retry.is (carried c.take-in-Retry.ensures c.retry.ensures c.put_back-in-Retry.ensures)

pub give_up-requires : goal.give_up-requires
give_up-requires g c = taken-held c.take-in-GiveUp.ensures c.args.domain.now c.requires

pub returns-in-GiveUp : goal.returns-in-GiveUp
returns-in-GiveUp g c =
    rw c.in-GiveUp.is (carried c.take-in-GiveUp.ensures c.give_up.ensures c.put_back-in-GiveUp.ensures)

pub update-requires : goal.update-requires
update-requires g c = taken-held c.take-in-Update.ensures c.args.domain.now c.requires

pub returns-in-Update : goal.returns-in-Update
returns-in-Update g c =
    rw c.in-Update.is (carried c.take-in-Update.ensures c.update.ensures c.put_back-in-Update.ensures)

pub receive-requires : goal.receive-requires
receive-requires g c = taken-held c.take-in-Receive.ensures c.args.domain.now c.requires

pub returns-in-Receive : goal.returns-in-Receive
returns-in-Receive g c =
    rw c.in-Receive.is (carried c.take-in-Receive.ensures c.receive.ensures c.put_back-in-Receive.ensures)

pub has_samples-requires : goal.has_samples-requires
has_samples-requires g c = taken-held c.take-in-HasSamples.ensures c.args.domain.now c.requires

pub returns-in-HasSamples : goal.returns-in-HasSamples
returns-in-HasSamples g c =
    rw c.in-HasSamples.is (carried c.take-in-HasSamples.ensures c.has_samples.ensures c.put_back-in-HasSamples.ensures)

pub read-requires : goal.read-requires
read-requires g c = taken-held c.take-in-Read.ensures c.args.domain.now c.requires

pub returns-in-Read : goal.returns-in-Read
returns-in-Read g c = rw c.in-Read.is (carried c.take-in-Read.ensures c.read.ensures c.put_back-in-Read.ensures)

pub read_header-requires : goal.read_header-requires
read_header-requires g c = taken-held c.take-in-ReadHeader.ensures c.args.domain.now c.requires

pub returns-in-ReadHeader : goal.returns-in-ReadHeader
returns-in-ReadHeader g c =
    rw c.in-ReadHeader.is (carried c.take-in-ReadHeader.ensures c.read_header.ensures c.put_back-in-ReadHeader.ensures)

pub read_user_header-requires : goal.read_user_header-requires
read_user_header-requires g c = taken-held c.take-in-ReadUserHeader.ensures c.args.domain.now c.requires

pub returns-in-ReadUserHeader : goal.returns-in-ReadUserHeader
returns-in-ReadUserHeader g c = rw c.in-ReadUserHeader.is
    (carried c.take-in-ReadUserHeader.ensures c.read_user_header.ensures c.put_back-in-ReadUserHeader.ensures)

pub release-requires : goal.release-requires
release-requires g c = taken-held c.take-in-Release.ensures c.args.domain.now c.requires

pub returns-in-Release : goal.returns-in-Release
returns-in-Release g c =
    rw c.in-Release.is (carried c.take-in-Release.ensures c.release.ensures c.put_back-in-Release.ensures)

pub close-requires : goal.close-requires
close-requires g c = taken-held c.take-in-Close.ensures c.args.domain.now c.requires

pub returns-in-Close : goal.returns-in-Close
returns-in-Close g c = rw c.in-Close.is (carried c.take-in-Close.ensures c.close.ensures c.put_back-in-Close.ensures)

pub connection_place-requires : goal.connection_place-requires
connection_place-requires g c = taken-held c.take-in-ConnectionPlace.ensures c.args.domain.now c.requires

pub returns-in-ConnectionPlace : goal.returns-in-ConnectionPlace
returns-in-ConnectionPlace g c = rw c.in-ConnectionPlace.is
    (carried c.take-in-ConnectionPlace.ensures c.connection_place.ensures c.put_back-in-ConnectionPlace.ensures)

pub publisher_channel-requires : goal.publisher_channel-requires
publisher_channel-requires g c = taken-held c.take-in-PublisherChannel.ensures c.args.domain.now c.requires

pub returns-in-PublisherChannel : goal.returns-in-PublisherChannel
returns-in-PublisherChannel g c = rw c.in-PublisherChannel.is
    (carried c.take-in-PublisherChannel.ensures c.publisher_channel.ensures c.put_back-in-PublisherChannel.ensures)

pub subscriber_channel-requires : goal.subscriber_channel-requires
subscriber_channel-requires g c = taken-held c.take-in-SubscriberChannel.ensures c.args.domain.now c.requires

pub returns-in-SubscriberChannel : goal.returns-in-SubscriberChannel
returns-in-SubscriberChannel g c = rw c.in-SubscriberChannel.is
    (carried c.take-in-SubscriberChannel.ensures c.subscriber_channel.ensures c.put_back-in-SubscriberChannel.ensures)

pub returns-in-Nothing : goal.returns-in-Nothing
returns-in-Nothing g c = record {
  carries = rw c.in-Nothing.is (λ m s handles events shown w default_value default_header is_value is_header.
      nothing_comes {T = g.row.T.Denot} {U = g.row.U.Denot} fixed_handlers _
      (Shows c.args.domain.now) m s handles events
      (map entry_for c.args.table.now.items) w default_value default_header is_value is_header shown);
  leaves = leaves-all {T = g.row.T.Denot}
      {U = g.row.U.Denot} c.args.domain.now c.args.domain.now c.args.table.now.items c.args.table.now.items refl refl;
  room = record { len = refl; capacity = refl };
}
