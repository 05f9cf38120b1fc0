-- When handles of a service are live.
use Rattle.std.specs.Prelude.{◌≡◌, ◌≢◌, ◌<◌, ◌≤◌, ℕ}
use Rattle.std.specs.declared.option.Option.TheVariants.{Some}
use Rattle.iox2_machine.specs.machine.Channel.{closed_state}
use Rattle.iox2_machine.specs.machine.ChannelCalls.{connection_place}
use Rattle.iox2_machine.specs.machine.State.{State, Messages}
use Rattle.iox2_domain.specs.Shows.{Shows}
use Rattle.iox2_pubsub.specs.Handles.{publisher_id, subscriber_id}
use Rattle.iox2_pubsub.specs.Live.{IsLivePublisher, IsLiveSample, IsLiveSubscriber, IsNewIn, No_item}
use Rattle.iox2_pubsub.specs.Live.{SampleHasUserHeader, publisher_port, received_sample, sample_key, subscriber_port}
use Rattle.iox2_pubsub.specs.Live.{subscriber_ports}
use Rattle.iox2_pubsub.specs.declared.subscriber.Subscriber.{Subscriber}
use Rattle.iox2_request_response.specs.Service.{StaysBoth}
use Rattle.iox2_request_response.specs.Slots.{AreDistinctIdle, HasIdle, IsPlaceInUse, idle_ports, slot_ids}
use Rattle.iox2_request_response.specs.declared.active_request.ActiveRequest.{ActiveRequest}
use Rattle.iox2_request_response.specs.declared.client.Client.{Client}
use Rattle.iox2_request_response.specs.declared.pending_response.PendingResponse.{PendingResponse}
use Rattle.iox2_request_response.specs.declared.response.Response.{Response}
use Rattle.iox2_request_response.specs.declared.server.Server.{Server}
use Rattle.iox2_request_response.specs.declared.service.RequestResponse.{RequestResponse}
use Rattle.iox2_request_response.specs.declared.tags.RequestTag.{RequestTag}
use Rattle.iox2_request_response.specs.declared.tags.ResponseTag.{ResponseTag}

-- A request may have this number: it is the state neither of a new channel nor of a closed one.
pub record IsRequestNumber (number : ℕ) : Type 0 where
  pub not_open : 0 < number
  pub not_closed : number < closed_state

module _ {Q P F G : Type 0} (service : RequestResponse Q P F G) where
  -- The client's publisher of requests is live, and so are its subscribers of responses that no request uses. No two of
  -- its subscribers are the same.
  pub record IsLiveClient (client : Client) : Type 0 where
    pub requests : IsLivePublisher service.requests client.requests
    pub slots : (index : ℕ) (subscriber : Subscriber) → HasIdle (client.slots).items index subscriber
        → IsLiveSubscriber service.responses subscriber
    pub distinct : AreDistinctIdle (slot_ids (client.slots).items)

  -- Both ports of the server are live.
  pub record IsLiveServer (server : Server) : Type 0 where
    pub requests : IsLiveSubscriber service.requests server.requests
    pub responses : IsLivePublisher service.responses server.responses

  -- The subscriber of the responses to the request is live, and the request has a number.
  pub record IsLivePending (pending : PendingResponse) : Type 0 where
    pub slot : IsLiveSubscriber service.responses pending.slot
    pub number : IsRequestNumber pending.number

  -- The request is borrowed.
  abbrev pub IsLiveActive : ActiveRequest → Type 0
  IsLiveActive active = IsLiveSample service.requests active.sample

  -- The response is borrowed.
  abbrev pub IsLiveResponse : Response → Type 0
  IsLiveResponse response = IsLiveSample service.responses response.sample

  -- The request has the number that its tag says, and its place is that of the server's connection to the subscriber
  -- that the tag names.
  pub record IsTagged (server : Server) (active : ActiveRequest) : Type 0 where
    pub tag : RequestTag
    pub reads : SampleHasUserHeader service.requests (sample_key active.sample) tag
    pub number : active.number ≡ tag.number
    pub place : (m : Messages P ResponseTag) (s : State P ResponseTag) → Shows service.responses m s
        → connection_place s (publisher_id server.responses) tag.slot ≡ Some active.place

  -- ---- what a call made

  -- No port of the client was there.
  pub record IsNewClient (client : Client) : Type 0 where
    pub requests : IsNewIn service.requests (publisher_port client.requests)
    pub slots : IsNewIn service.responses (subscriber_ports (slot_ids (client.slots).items))

  -- No port of the server was there.
  pub record IsNewServer (server : Server) : Type 0 where
    pub requests : IsNewIn service.requests (subscriber_port server.requests)
    pub responses : IsNewIn service.responses (publisher_port server.responses)

  -- The request wasn't borrowed.
  abbrev pub IsNewActive : ActiveRequest → Type 0
  IsNewActive active = IsNewIn service.requests (received_sample active.sample)

  -- The response wasn't borrowed.
  abbrev pub IsNewResponse : Response → Type 0
  IsNewResponse response = IsNewIn service.responses (received_sample response.sample)

-- ---- what a call spent: all that was live in either domain is and reads as it did, but this

module _ {Q P F G : Type 0} (old new : RequestResponse Q P F G) where
  -- The client, with its idle subscribers.
  abbrev pub StaysButClient : Client → Type 0
  StaysButClient client = StaysBoth (publisher_port client.requests) (idle_ports (client.slots).items) old new

  -- The server.
  abbrev pub StaysButServer : Server → Type 0
  StaysButServer server = StaysBoth (subscriber_port server.requests) (publisher_port server.responses) old new

  -- The subscriber of the responses to a request.
  abbrev pub StaysButPending : PendingResponse → Type 0
  StaysButPending pending = StaysBoth No_item (subscriber_port pending.slot) old new

  -- The request.
  abbrev pub StaysButActive : ActiveRequest → Type 0
  StaysButActive active = StaysBoth (received_sample active.sample) No_item old new

  -- The response.
  abbrev pub StaysButResponse : Response → Type 0
  StaysButResponse response = StaysBoth No_item (received_sample response.sample) old new

  -- The request got its number now: it is none that was given before.
  pub record HasNewNumber (pending : PendingResponse) : Type 0 where
    pub at_least : old.next_request ≤ pending.number
    pub given : pending.number < new.next_request

-- ---- a client and its requests

-- The pending response is one of this client's: its subscriber is that of the place that it has there.
abbrev pub IsPendingOf : Client → PendingResponse → Type 0
IsPendingOf client pending = IsPlaceInUse (client.slots).items pending.index (subscriber_id pending.slot)

-- The two have places of their own.
abbrev pub AreSeparateRequests : (first second : PendingResponse) → Type 0
AreSeparateRequests first second = first.index ≢ second.index

-- The client has the ports that it had before, whoever of them is idle.
pub record HasPortsOf (before client : Client) : Type 0 where
  pub requests : client.requests ≡ before.requests
  pub slots : slot_ids (client.slots).items ≡ slot_ids (before.slots).items

-- Who is idle was so before, at the same place.
abbrev pub HasIdleOf : (before client : Client) → Type 0
HasIdleOf before client = (index : ℕ) (subscriber : Subscriber) → HasIdle (client.slots).items index subscriber
    → HasIdle (before.slots).items index subscriber
