-- The entries of what a run's commands made.
use Rattle.std.proofs.Common.{◌≡◌, ℕ, zero, suc, Bool, false, List, [], ◌∷◌, map, refl, sym, ap, Some}
use Rattle.std.specs.Prelude.{slice_get, slice_set, slice_index_or}
use Rattle.iox2_runs.specs.Tables.{TableEntry, No_entry}
use Rattle.iox2_runs.specs.Carries.{entry_for}
use Rattle.iox2_runs.specs.declared.runs.made.Made.{Made}
use Rattle.iox2_runs.specs.declared.runs.made.Made.TheVariants.{Nothing, Publisher as MadePublisher}
use Rattle.iox2_runs.specs.declared.runs.made.Made.TheVariants.{Subscriber as MadeSubscriber, Unwritten, Written}
use Rattle.iox2_runs.specs.declared.runs.made.Made.TheVariants.{Blocked, Sample as MadeSample}
use Rattle.iox2_pubsub.specs.declared.blocked_send.BlockedSend.{BlockedSend}
use Rattle.iox2_pubsub.specs.declared.publisher.Publisher.{Publisher}
use Rattle.iox2_pubsub.specs.declared.subscriber.Subscriber.{Subscriber}
use Rattle.iox2_pubsub.specs.declared.sample_mut_uninit.SampleMutUninit.{SampleMutUninit}
use Rattle.iox2_pubsub.specs.declared.sample_mut.SampleMut.{SampleMut}
use Rattle.iox2_pubsub.specs.Sample.{Sample}
use Rattle.iox2_runs.proofs.TableLooks.{Lacks, is_publisher_entry, is_subscriber_entry, is_unwritten_entry}
use Rattle.iox2_runs.proofs.TableLooks.{is_written_entry, is_blocked_entry, is_sample_entry, is_loan_entry}

-- the entries after one of the table was set
pub entries-set : (table : List Made) (of : ℕ) (made : Made)
    → map entry_for (slice_set table of made) ≡ slice_set (map entry_for table) of (entry_for made)
entries-set [] of made = refl
entries-set (h ∷ table) zero made = refl
entries-set (h ∷ table) (suc of) made = ap (λ ks. entry_for h ∷ ks) (entries-set table of made)

-- one setting after another is the second
pub set_again : (table : List Made) (of : ℕ) (first second : Made)
    → slice_set (slice_set table of first) of second ≡ slice_set table of second
set_again [] of first second = refl
set_again (h ∷ table) zero first second = refl
set_again (h ∷ table) (suc of) first second = ap (λ hs. h ∷ hs) (set_again table of first second)

-- nor is anything changed where what stands there is set
pub set_same : (table : List Made) (of : ℕ) → slice_set table of (slice_index_or table of Nothing) ≡ table
set_same [] of = refl
set_same (h ∷ table) zero = refl
set_same (h ∷ table) (suc of) = ap (λ hs. h ∷ hs) (set_same table of)

-- what stands at a position, where something does
pub entry-stands : (table : List Made) (of : ℕ) (made : Made) → slice_index_or table of Nothing ≡ made
    → (made ≡ Nothing → ⊥) → slice_get (map entry_for table) of ≡ Some (entry_for made)
entry-stands [] of made at some = absurd (some (sym at))
entry-stands (h ∷ table) zero made at some = ap (λ k. Some (entry_for k)) at
entry-stands (h ∷ table) (suc of) made at some = entry-stands table of made at some

-- a kind that isn't there
pub lacks : (kind : TableEntry → Bool) → kind No_entry ≡ false → (table : List Made) (of : ℕ)
    → kind (entry_for (slice_index_or table of Nothing)) ≡ false → Lacks kind (map entry_for table) of
lacks kind nothing [] of other = refl
lacks kind nothing (h ∷ table) zero other = other
lacks kind nothing (h ∷ table) (suc of) other = lacks kind nothing table of other

-- what isn't of a kind
pub not_unwritten : (made : Made) → ((h : SampleMutUninit) → made ≡ Unwritten h → ⊥)
    → is_unwritten_entry (entry_for made) ≡ false
not_unwritten Nothing other = refl
not_unwritten (MadePublisher h) other = refl
not_unwritten (MadeSubscriber h) other = refl
not_unwritten (Unwritten h) other = absurd (other h refl)
not_unwritten (Written h) other = refl
not_unwritten (Blocked h) other = refl
not_unwritten (MadeSample h) other = refl

pub not_written : (made : Made) → ((h : SampleMut) → made ≡ Written h → ⊥) → is_written_entry (entry_for made) ≡ false
not_written Nothing other = refl
not_written (MadePublisher h) other = refl
not_written (MadeSubscriber h) other = refl
not_written (Unwritten h) other = refl
not_written (Written h) other = absurd (other h refl)
not_written (Blocked h) other = refl
not_written (MadeSample h) other = refl

pub not_blocked : (made : Made) → ((h : BlockedSend) → made ≡ Blocked h → ⊥) → is_blocked_entry (entry_for made) ≡ false
not_blocked Nothing other = refl
not_blocked (MadePublisher h) other = refl
not_blocked (MadeSubscriber h) other = refl
not_blocked (Unwritten h) other = refl
not_blocked (Written h) other = refl
not_blocked (Blocked h) other = absurd (other h refl)
not_blocked (MadeSample h) other = refl

pub not_sample : (made : Made) → ((h : Sample) → made ≡ MadeSample h → ⊥) → is_sample_entry (entry_for made) ≡ false
not_sample Nothing other = refl
not_sample (MadePublisher h) other = refl
not_sample (MadeSubscriber h) other = refl
not_sample (Unwritten h) other = refl
not_sample (Written h) other = refl
not_sample (Blocked h) other = refl
not_sample (MadeSample h) other = absurd (other h refl)

pub not_publisher : (made : Made) → ((h : Publisher) → made ≡ MadePublisher h → ⊥)
    → is_publisher_entry (entry_for made) ≡ false
not_publisher Nothing other = refl
not_publisher (MadePublisher h) other = absurd (other h refl)
not_publisher (MadeSubscriber h) other = refl
not_publisher (Unwritten h) other = refl
not_publisher (Written h) other = refl
not_publisher (Blocked h) other = refl
not_publisher (MadeSample h) other = refl

pub not_subscriber : (made : Made) → ((h : Subscriber) → made ≡ MadeSubscriber h → ⊥)
    → is_subscriber_entry (entry_for made) ≡ false
not_subscriber Nothing other = refl
not_subscriber (MadePublisher h) other = refl
not_subscriber (MadeSubscriber h) other = absurd (other h refl)
not_subscriber (Unwritten h) other = refl
not_subscriber (Written h) other = refl
not_subscriber (Blocked h) other = refl
not_subscriber (MadeSample h) other = refl

pub not_loan : (made : Made) → ((h : SampleMutUninit) → made ≡ Unwritten h → ⊥)
    → ((h : SampleMut) → made ≡ Written h → ⊥) → is_loan_entry (entry_for made) ≡ false
not_loan Nothing other other' = refl
not_loan (MadePublisher h) other other' = refl
not_loan (MadeSubscriber h) other other' = refl
not_loan (Unwritten h) other other' = absurd (other h refl)
not_loan (Written h) other other' = absurd (other' h refl)
not_loan (Blocked h) other other' = refl
not_loan (MadeSample h) other other' = refl
