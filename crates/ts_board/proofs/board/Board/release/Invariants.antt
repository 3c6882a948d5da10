use Rattle.ts_board.proofs.board.Board.release.Given as goal

abbrev pub ghosts-let_go : goal.ghosts-let_go
ghosts-let_go g a = record { action = a.i }
