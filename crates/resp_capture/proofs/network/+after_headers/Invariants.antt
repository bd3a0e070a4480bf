use Rattle.resp_capture.proofs.network.+after_headers.Given as goal

abbrev pub decreases-after_headers : goal.decreases-after_headers
decreases-after_headers l = l.most
