use Rattle.iox2_runs.proofs.CarriedHeaders.{user_header_read, read_of_unwritten, read_of_written, read_of_sample}
use Rattle.iox2_runs.proofs.CarriedHeaders.{read_passed}
use Rattle.iox2_runs.proofs.LiveEntries.{live_unwritten, live_written, live_sample}
use Rattle.iox2_runs.proofs.TableEntries.{not_sample, not_loan}
use Rattle.iox2_runs.proofs.TableLooks.{is_sample_entry, is_loan_entry}
use Rattle.iox2_runs.proofs.Turned.{looks}
use Rattle.iox2_runs.specs.Carries.{entry_for}
use Rattle.iox2_runs.specs.declared.runs.made.Made.{Made}
use Rattle.std.proofs.Common.{ap, ◌∙◌}
use Rattle.iox2_runs.proofs.runs.reads.read_user_header.Goals as goal

pub user_header-requires : goal.user_header-requires
user_header-requires g c =
    record {
      live = (live_unwritten {T = g.row.T.Denot}
          {U = g.row.U.Denot} c.args.domain.now c.args.held c.requires c.in-Unwritten.loan c.in-Unwritten.is).live;
    }

pub returns-in-Unwritten : goal.returns-in-Unwritten
returns-in-Unwritten g c =
    rw c.in-Unwritten.is (looks {T = g.row.T.Denot} {U = g.row.U.Denot} _ _ c.args.domain.now _ _ _
    (λ table of at. read_of_unwritten {T = g.row.T.Denot} {U = g.row.U.Denot} _ c.args.domain.now table of
    (user_header_read of) c.in-Unwritten.loan c.user_header.result.now at c.user_header.ensures.header))

pub user_header-requires-in-Written : goal.user_header-requires-in-Written
user_header-requires-in-Written g c =
    record {
      live = (live_written {T = g.row.T.Denot}
          {U = g.row.U.Denot} c.args.domain.now c.args.held c.requires c.in-Written.loan c.in-Written.is).live;
    }

pub returns-in-Written : goal.returns-in-Written
returns-in-Written g c =
    rw c.in-Written.is (looks {T = g.row.T.Denot} {U = g.row.U.Denot} _ _ c.args.domain.now _ _ _
    (λ table of at. read_of_written {T = g.row.T.Denot} {U = g.row.U.Denot} _ c.args.domain.now table of
    (user_header_read of) c.in-Written.loan c.user_header-in-Written.result.now at
    c.user_header-in-Written.ensures.header))

pub user_header-requires-in-Sample : goal.user_header-requires-in-Sample
user_header-requires-in-Sample g c =
    record {
      live = live_sample {T = g.row.T.Denot}
          {U = g.row.U.Denot} c.args.domain.now c.args.held c.requires c.in-Sample.sample c.in-Sample.is;
    }

pub returns-in-Sample : goal.returns-in-Sample
returns-in-Sample g c =
    rw c.in-Sample.is (looks {T = g.row.T.Denot} {U = g.row.U.Denot} _ _ c.args.domain.now _ _ _
    (λ table of at. read_of_sample {T = g.row.T.Denot} {U = g.row.U.Denot} _ c.args.domain.now table of
    (user_header_read of) c.in-Sample.sample c.user_header-in-Sample.result.now at
    c.user_header-in-Sample.ensures.header))

pub returns-in_default : goal.returns-in_default
returns-in_default g c =
    looks {T = g.row.T.Denot} {U = g.row.U.Denot} _ _ c.args.domain.now c.args.held _ _ (λ table of at.
    read_passed {T = g.row.T.Denot} {U = g.row.U.Denot} _ c.args.domain.now table of (user_header_read of)
    (ap (λ (h : Made). is_sample_entry (entry_for h)) at ∙ not_sample c.args.held c.in_default.not-Sample)
    (ap (λ (h : Made). is_loan_entry (entry_for h)) at
    ∙ not_loan c.args.held c.in_default.not-Unwritten c.in_default.not-Written))
