use Rattle.resp_capture.proofs.connection.CapturedConnection.next_held.Goals as goal

pub returns-in-Client-clause-none : goal.returns-in-Client-clause-none
returns-in-Client-clause-none c = rw c.in-Client.is c.next_held.ensures.none

pub returns-in-Server-clause-none : goal.returns-in-Server-clause-none
returns-in-Server-clause-none c = rw c.in-Server.is c.next_held-in-Server.ensures.none
