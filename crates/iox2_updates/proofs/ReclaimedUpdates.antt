-- A publisher's update goes on from where it reclaimed what was given back to it.
use Rattle.std.proofs.Common.{◌≡◌, ℕ, false, map, get_or, slice_set, ap, subst, ◌∙◌}
use Rattle.std.specs.declared.option.Option.{Option}
use Rattle.std.specs.declared.option.Option.TheVariants.{None, Some}
use Rattle.std.specs.Option.{option_map}
use Rattle.iox2_machine.specs.machine.PublisherUpdate.{UpdatePublisher}
use Rattle.iox2_machine.specs.machine.Records.{Environment}
use Rattle.iox2_machine.specs.machine.State.{State}
use Rattle.iox2_machine.specs.declared.errors.ConnectionFailure.{ConnectionFailure}
use Rattle.iox2_domain.specs.Connects.{UpdatesKeptPublisher}
use Rattle.iox2_domain.specs.Fields.{Fields, kept_of}
use Rattle.iox2_domain.specs.Kept.{state_of}
use Rattle.iox2_domain.specs.Reaches.{Reaches}
use Rattle.iox2_domain.specs.Updates.{is_publisher_due, subscriber_but_room}
use Rattle.iox2_domain.proofs.lemmas.fields.ReachesShows.{reaches-then}
use Rattle.iox2_updates.specs.Ends.{IsSenderDue}

module _ {T U : Type 0} (environment : Environment) (f mid : Fields T U)
    (reaches : Reaches f mid (state_of (kept_of f)))
    (only : mid ≡ record f { connections = mid.connections; books = mid.books }) (i : ℕ) (due : IsSenderDue f i) where
  -- the publisher is due still
  abbrev pub due-still : IsSenderDue mid i
  due-still = record {
    agrees = reaches.agrees;
    publisher = due.publisher;
    stands = ap (λ (h : Fields T U). get_or h.publishers i None) only ∙ due.stands;
    unblocked = due.unblocked;
    due = ap (λ (h : Fields T U). is_publisher_due h.publishers i) only ∙ due.due;
  }

  -- its update from there is one from the start
  pub updates-from : (new : Fields T U) (failure : Option ConnectionFailure)
      → UpdatesKeptPublisher environment mid i due.publisher new failure
      → UpdatesKeptPublisher environment f i due.publisher new failure
  updates-from new failure u = record {
    after = u.after;
    updates = subst
        (λ (s : State T U). UpdatePublisher environment s (due.publisher).id u.after failure) reaches.state u.updates;
    reaches = reaches-then f mid new (state_of (kept_of f)) u.after reaches u.reaches;
    keys = u.keys;
    key_room = u.key_room;
    fields = u.fields
        ∙ (λ k. record (only k) {
          publishers = slice_set ((only k).publishers) i
              (Some (record (due.publisher) { keys = u.keys; key_room = u.key_room; is_due = false }));
          subscribers = new.subscribers;
          connections = new.connections;
          books = new.books;
          warnings = new.warnings;
        });
    others = u.others ∙ ap (λ (h : Fields T U). map (option_map subscriber_but_room) h.subscribers) only;
  }
