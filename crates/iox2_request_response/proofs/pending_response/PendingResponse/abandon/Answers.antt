use Rattle.iox2_request_response.proofs.pending_response.PendingResponse.abandon.Goals as goal

pub returns-clause-let_go : goal.returns-clause-let_go
returns-clause-let_go g c = λ m s y shown at. c.close.ensures.closed m _ y (c.let_go.ensures.closed m s shown) at
