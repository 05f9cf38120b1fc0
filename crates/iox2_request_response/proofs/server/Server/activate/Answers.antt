use Rattle.std.proofs.Common.{refl, sym, ◌∙◌}
use Rattle.iox2_request_response.proofs.server.Server.activate.Goals as goal

pub returns-then-is_connected-clause-tagged : goal.returns-then-is_connected-clause-tagged
returns-then-is_connected-clause-tagged g c = record {
  tag = c.user_header-tag.result.now;
  reads = c.user_header-tag.ensures.reads;
  number = refl;
  place = λ m s shown. sym (c.get_connection_id_of.ensures.place m s shown) ∙ c.in-Some.is;
}

pub returns-then-is_connected-clause-connected : goal.returns-then-is_connected-clause-connected
returns-then-is_connected-clause-connected g c =
    λ m s shown. sym (c.is_connected.ensures m s shown) ∙ c.if-is_connected.true
